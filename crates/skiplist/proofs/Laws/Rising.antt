-- Chunks come by rising labels, lower levels first; sorted, they rise as the version compares them.
use mathlib.Core.Path.{◌≡◌, refl, sym, ap, ◌∙◌}
use mathlib.Core.Bool.{Bool, true, false, true≢false}
use mathlib.Core.List.{List, [], ◌∷◌}
use mathlib.Core.Logic.{inl, inr}
use Rattle.placement.specs.Blocks.{Among}
use Rattle.placement.specs.Labels.{label}
use Rattle.placement.specs.Chunks.{Chunk, chunk_before}
use Rattle.sizes.specs.declared.Sizes.{Sizes}
use Rattle.placement.specs.declared.Order.{Order}
use Rattle.placement.specs.declared.Label.{Label}
use Rattle.placement.proofs.Laws.Placed.{Rising}
use Rattle.placement.proofs.Laws.Sorted.{Comparable, comparable, sorted_rises, sorted_same}
use Rattle.placement.proofs.Laws.Labels.{lower_first, lower_ordering, labels_chain, labels_one, before_lower}
use Rattle.skiplist.specs.Lists.{chunks, in_order, blocks}
use Rattle.skiplist.specs.Image.{orders_good}
use Rattle.skiplist.specs.Promise.{labels_rise, LabelsRise, FirstAsItWas}
use Rattle.skiplist.proofs.Laws.Parts.{good_up}
use Rattle.skiplist.proofs.Laws.Rise.{Rises, chunks_rise}

abbrev pub lower_chunk : Chunk → Chunk → Bool
lower_chunk c d = lower_first c.label d.label

before_all : (c : Chunk) (cs : List Chunk) → Rises c.label cs → (d : Chunk) → Among d cs → lower_chunk c d ≡ true
before_all c [] r d a = absurd a
before_all c (e ∷ cs) r d (inl q) = rw q r.0
before_all c (e ∷ cs) r d (inr a) = lower_ordering.chain c.label e.label d.label r.0 (before_all e cs r.1 d a)

rises_all : (w : Label) (cs : List Chunk) → Rises w cs → Rising lower_chunk cs
rises_all w [] r = tt
rises_all w (c ∷ cs) r = (before_all c cs r.1, rises_all c.label cs r.1)

module _ (s : Sizes) (os : List Order) (g : orders_good s 1 os ≡ true) where
  pub chunks_rising : Rising lower_chunk (chunks s os)
  chunks_rising = rises_all (label 0 0 0) (chunks s os) (chunks_rise s os (good_up s 1 os g))

  -- no two have one label, so by the version's order one of them is before the other
  pub chunks_comparable : Comparable (chunk_before s) (chunks s os)
  chunks_comparable = comparable (chunk_before s) lower_chunk (λ c d h e. decided c d h e (chunk_before s d c) refl) (chunks s os) chunks_rising
    where
      decided : (c d : Chunk) → lower_chunk c d ≡ true → chunk_before s c d ≡ false → (t : Bool) → chunk_before s d c ≡ t → chunk_before s d c ≡ true
      decided c d h e true f = f
      decided c d h e false f =
          absurd (true≢false (sym h ∙ ap (lower_first c.label) (sym (labels_one s c.label d.label e f)) ∙ lower_ordering.strict c.label))

  pub in_order_rises : Rising (chunk_before s) (in_order s os)
  in_order_rises = sorted_rises (chunk_before s) (λ a b c. labels_chain s a.label b.label c.label) (chunks s os) chunks_comparable

-- LABELS RISE in the order of placement
rising_true : (s : Sizes) (cs : List Chunk) → Rising (chunk_before s) cs → labels_rise s cs ≡ true
unfolding labels_rise
rising_true s [] r = refl
rising_true s (c ∷ []) r = refl
rising_true s (c ∷ d ∷ cs) r = rw (r.0 d (inl refl)) (rising_true s (d ∷ cs) r.1)

pub labels_do_rise : LabelsRise
unfolding LabelsRise
labels_do_rise s os g = rising_true s (in_order s os) (in_order_rises s os g)

-- VERSION 1 places chunks as they come
lower_rising : (s : Sizes) → s.version ≡ 1 → (cs : List Chunk) → Rising lower_chunk cs → Rising (chunk_before s) cs
lower_rising s v [] u = tt
lower_rising s v (c ∷ cs) u = (λ d a. before_lower s v c.label d.label ∙ u.0 d a, lower_rising s v cs u.1)

pub first_as_it_was : FirstAsItWas
unfolding FirstAsItWas blocks
first_as_it_was s os v g = rw (sorted_same (chunk_before s) (chunks s os) (lower_rising s v (chunks s os) (chunks_rising s os g)))
