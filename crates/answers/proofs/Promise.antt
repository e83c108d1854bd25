-- All that is promised of the text program's `put`, proved.
use Rattle.answers.specs.Put.{AmendsOrEnters, Never9_13Or14}
use Rattle.answers.proofs.Laws.Puts.{amends_or_enters, never_9_13_or_14}

pub record Proved : Type 0 where
  pub put : AmendsOrEnters
  pub prints : Never9_13Or14

pub proved : Proved
proved = record { put = amends_or_enters; prints = never_9_13_or_14 }
