-- Lines printed one after the other.
use mathlib.Core.Path.{◌≡◌, refl, ap, sym, ◌∙◌}
use mathlib.Core.Bool.{Bool, true, false, cond}
use mathlib.Core.List.{List, [], ◌∷◌, ◌++◌, append_assoc, append-nil}
use Prim.Native.Nat.{ℕ, ◌+◌, ◌≤◌, ◌<◌}
use native.Mathlib.Omega.{arith}
use lib.Dec.{ltb}
use lib.ListN.{length, take}
use lib.Seq.{sets}
use borrow.Author.Tests.{ltb-false, le-ltb, lt-ltb}
use Rattle.lines.specs.Text.{Put, row, dash}
use Rattle.lines.proofs.Laws.Writing.{row_short, dash_short}
use Rattle.answers.specs.Output.{Waiting, waiting_in, waits, room_at, handed_on, with_line, told, handed, text, Said}
use Rattle.answers.specs.declared.printer.Printer.{Printer}
use Rattle.placement.proofs.Laws.Cells.{take_sets_end}

-- ROOM for a line
pub room_kept : (used : ℕ) → used ≤ 65000 → room_at used ≡ used
unfolding room_at
room_kept used h = rw (le-ltb 65000 used h)

pub room_made : (used : ℕ) → 65000 < used → room_at used ≡ 0
unfolding room_at
room_made used h = rw (lt-ltb 65000 used h)

-- ONE LINE, behind the bytes that wait
module _ (old mid new : Printer) (whole : length old.buffer ≡ 65536) (kept : mid.buffer ≡ old.buffer) (room : mid.used ≡ room_at old.used) where
  module _ (bytes : List ℕ) (s : length bytes ≤ 536) (p : Put mid.buffer new.buffer mid.used bytes new.used) where
    line_is : waiting_in new ≡ told (waiting_in old) (bytes ∷ [])
    unfolding told with_line
    line_is =
        let b : new.buffer ≡ sets old.buffer (room_at old.used) bytes = rw (kept, room) at p.is in
        let n : new.used ≡ room_at old.used + length bytes = rw room at p.next in
        λ j. record { buffer = b j; used = n j }

    line_whole : handed (waiting_in old) (bytes ∷ []) ++ waits new ≡ waits old ++ text (bytes ∷ [])
    unfolding handed handed_on text room_at
    line_whole = rw (p.next, p.is, kept, room) (go (ltb 65000 old.used) refl)
      where
        go : (t : Bool) → ltb 65000 old.used ≡ t
            → (cond t (waits old) [] ++ []) ++ take (cond t 0 old.used + length bytes) (sets old.buffer (cond t 0 old.used) bytes) ≡ waits old ++ (bytes ++ [])
        go true e = rw (append-nil (waits old), append-nil bytes) (ap (λ (z : List ℕ). waits old ++ z) (take_sets_end old.buffer 0 bytes (omega arith)))
        go false e = rw (append-nil bytes) (take_sets_end old.buffer old.used bytes (omega (arith, ltb-false 65000 old.used e)))

    said_line : Said old (bytes ∷ []) new
    said_line = record { is = line_is; whole = line_whole }

  pub said_row : (first : ℕ) (others : List ℕ) → length others ≤ 36 → Put mid.buffer new.buffer mid.used (row first others) new.used → Said old (row first others ∷ []) new
  said_row first others n p = said_line (row first others) (omega (arith, row_short first others)) p

  pub said_mark : (mark : ℕ) → Put mid.buffer new.buffer mid.used (mark ∷ 10 ∷ []) new.used → Said old ((mark ∷ 10 ∷ []) ∷ []) new
  said_mark mark p = said_line (mark ∷ 10 ∷ []) (omega arith) p

  pub said_dash : (n : ℕ) → Put mid.buffer new.buffer mid.used (dash n) new.used → Said old (dash n ∷ []) new
  said_dash n p = said_line (dash n) (omega (arith, dash_short n)) p

-- LINES and then others
told_on : (w : Waiting) (ls ks : List (List ℕ)) → told w (ls ++ ks) ≡ told (told w ls) ks
unfolding told
told_on w [] ks = refl
told_on w (l ∷ ls) ks = told_on (with_line w l) ls ks

handed_after : (w : Waiting) (ls ks : List (List ℕ)) → handed w (ls ++ ks) ≡ handed w ls ++ handed (told w ls) ks
unfolding handed told
handed_after w [] ks = refl
handed_after w (l ∷ ls) ks = rw (handed_after (with_line w l) ls ks) (sym (append_assoc (handed_on w) (handed (with_line w l) ls) (handed (told (with_line w l) ls) ks)))

text_on : (ls ks : List (List ℕ)) → text (ls ++ ks) ≡ text ls ++ text ks
unfolding text
text_on [] ks = refl
text_on (l ∷ ls) ks = rw (text_on ls ks) (sym (append_assoc l (text ls) (text ks)))

pub said_none : (p : Printer) → Said p [] p
unfolding told handed text
said_none p = record { is = refl; whole = sym (append-nil (waits p)) }

module _ (old mid new : Printer) (ls ks : List (List ℕ)) where
  pub said_on : Said old ls mid → Said mid ks new → Said old (ls ++ ks) new
  said_on a b =
      let w = waiting_in old in
      let h : handed (told w ls) ks ++ waits new ≡ waits mid ++ text ks = ap (λ (v : Waiting). handed v ks ++ waits new) (sym a.is) ∙ b.whole in
      record {
        is = b.is ∙ ap (λ (v : Waiting). told v ks) a.is ∙ sym (told_on w ls ks);
        whole =
            rw (handed_after w ls ks, append_assoc, h, text_on ls ks) (sym (append_assoc (handed w ls) (waits mid) (text ks)) ∙ rw a.whole (append_assoc (waits old) (text ls) (text ks)));
      }
