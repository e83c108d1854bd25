-- What is printed for a call's Result is what its line has to print.
use Rattle.std.proofs.Common.{Ok, Err}
use mathlib.Core.Path.{◌≡◌, ap, sym}
use mathlib.Core.Bool.{true, ◌&&◌}
use mathlib.Core.List.{List, [], ◌∷◌, map}
use Prim.Native.Nat.{ℕ, zero, suc, ◌*◌, ◌≤◌}
use lib.Dec.{leb}
use lib.ListN.{length}
use borrow.Author.Tests.{leb-true}
use Rattle.lines.specs.Text.{row}
use Rattle.placement.specs.Decode.{nodes_from}
use Rattle.placement.specs.declared.Order.{Order}
use Rattle.skiplist.specs.Image.{is_image, orders_in}
use Rattle.skiplist.specs.Questions.{first_no, is_key, between, asks_range, asks_span}
use Rattle.skiplist.specs.Book.{lookup, span, seek, asks, book_refusal, refusal}
use Rattle.skiplist.proofs.Laws.Questions.{passes}
use Rattle.skiplist.proofs.Laws.Third.{taken}
use Rattle.table.specs.declared.Reply.{Reply}
use Rattle.table.specs.declared.Refusal.{Refusal}
use Rattle.table.specs.Refusals.{number_of, refused, order_reply, count_reply}
use Rattle.table.specs.Calls.{gives, LookAs, LookSays, SpanAs, SpanSays, SeekAs, SeekSays}
use Rattle.table.proofs.Laws.Refusals.{number_some}
use Rattle.readings.proofs.Laws.Answers.{width}
use Rattle.answers.specs.Answers.{answer_lines, show_lines, order_line, span_lines, seek_lines}
use Rattle.answers.specs.Output.{Said}
use Rattle.answers.specs.declared.printer.Printer.{Printer}
use Rattle.answers.proofs.Laws.Orders.{span_back}
use Rattle.answers.proofs.Laws.Output.{said_on}

-- A REFUSAL prints its number alone
pub refused_lines : (e : Refusal) (ns : List ℕ) (ls : List (List ℕ)) → answer_lines (number_of e) ns ls ≡ row (number_of e) [] ∷ []
unfolding answer_lines
refused_lines e ns ls = rw (number_some e).1

-- of a reply that gives an order
given_lines : (adds : (key total displayed : ℕ) → List ℕ) (n c : ℕ) (o : Order) (r : Reply) → r ≡ gives n c o →
    answer_lines n (adds o.key o.total o.displayed) [] ≡ answer_lines r.number (adds r.key r.total r.displayed) []
unfolding gives answer_lines
given_lines adds zero c o r e = rw e
given_lines adds (suc n) c o r e = rw e

module _ (old new : Printer) where
  -- SHOW
  module _ (x : List ℕ) (k : ℕ) where
    show_is : (r : Reply) → LookSays x k r → show_lines x k ≡ answer_lines r.number (r.total ∷ r.displayed ∷ []) []
    unfolding show_lines LookSays LookAs
    show_is r h = given_lines (λ k t d. t ∷ d ∷ []) (refusal (lookup k) x) 0 _ r h

    pub show_no : (e : Refusal) → LookSays x k (order_reply (Err e)) → Said old (row (number_of e) [] ∷ []) new → Said old (show_lines x k) new
    show_no e h s = rw (show_is (refused e) h, refused_lines) s

    pub show_yes : (o : Order) → LookSays x k (order_reply (Ok o)) → Said old (row 0 (o.total ∷ o.displayed ∷ []) ∷ []) new → Said old (show_lines x k) new
    unfolding answer_lines
    show_yes o h s = rw (show_is (order_reply (Ok o)) h) s

  -- SEEK
  module _ (x : List ℕ) (lo hi l : ℕ) where
    seek_is : (r : Reply) → SeekSays x lo hi l r → seek_lines x lo hi l ≡ answer_lines r.number (r.key ∷ r.total ∷ r.displayed ∷ []) []
    unfolding seek_lines SeekSays SeekAs
    seek_is r h = given_lines (λ k t d. k ∷ t ∷ d ∷ []) (refusal (seek lo hi l) x) 0 _ r h

    pub seek_no : (e : Refusal) → SeekSays x lo hi l (order_reply (Err e)) → Said old (row (number_of e) [] ∷ []) new → Said old (seek_lines x lo hi l) new
    seek_no e h s = rw (seek_is (refused e) h, refused_lines) s

    pub seek_yes : (o : Order) → SeekSays x lo hi l (order_reply (Ok o)) → Said old (row 0 (o.key ∷ o.total ∷ o.displayed ∷ []) ∷ []) new → Said old (seek_lines x lo hi l) new
    unfolding answer_lines
    seek_yes o h s = rw (seek_is (order_reply (Ok o)) h) s

-- SPAN
module _ (x : List ℕ) (lo hi : ℕ) (o z : List ℕ) where
  number_is : (r : Reply) → SpanSays x lo hi r o z → r.number ≡ refusal (span lo hi o) x
  unfolding SpanSays SpanAs
  number_is r h = go (refusal (span lo hi o) x) h
    where
      go : (n : ℕ) → SpanAs (width x) n (between lo hi (orders_in x)) r o z → r.number ≡ n
      go zero s = ap (λ (q : Reply). q.number) s.0
      go (suc n) s = ap (λ (q : Reply). q.number) s.0

  pub span_no : (old new : Printer) (e : Refusal) → SpanSays x lo hi (count_reply (Err e)) o z → Said old (row (number_of e) [] ∷ []) new → Said old (span_lines x lo hi (length o)) new
  unfolding span_lines refusal asks
  span_no old new e h s = rw (← number_is (refused e) h, refused_lines) s

  -- where it is not refused
  module _ (n : ℕ) (h : SpanSays x lo hi (count_reply (Ok n)) o z) where
    passed : refusal (span lo hi o) x ≡ 0
    passed = sym (number_is (count_reply (Ok n)) h)

    pub span_image : is_image x ≡ true
    span_image = (taken (span lo hi o) x passed).0

    wrote : SpanAs (width x) 0 (between lo hi (orders_in x)) (count_reply (Ok n)) o z
    unfolding SpanSays
    wrote = rw passed at h

    found : n ≡ length (between lo hi (orders_in x))
    unfolding SpanAs
    found = ap (λ (q : Reply). q.count) wrote.0

    module _ (w : ℕ) (ew : w ≡ width x) where
      -- what it found fits the output that it was lent
      pub span_room : w * n ≤ length o
      unfolding book_refusal asks asks_span asks_range first_no
      span_room =
          let a = passes 4 (is_key lo && is_key hi) _ (taken (span lo hi o) x passed).1 in
          let b = passes 9 (leb lo hi) _ a.1 in
          let c = passes 10 (leb (width x * length (between lo hi (orders_in x))) (length o)) 0 b.1 in
          rw (ew, found) (leb-true (width x * length (between lo hi (orders_in x))) (length o) c.0)

      span_is : span_lines x lo hi (length o) ≡ row 0 (n ∷ []) ∷ map order_line (nodes_from w n z)
      unfolding span_lines refusal asks SpanAs answer_lines
      span_is = rw passed (sym (rw (ew, found, wrote.1, span_back x lo hi _ span_image)))

      pub span_yes : (old mid new : Printer) → Said old (row 0 (n ∷ []) ∷ []) mid → Said mid (map order_line (nodes_from w n z)) new → Said old (span_lines x lo hi (length o)) new
      span_yes old mid new a b = rw span_is (said_on old mid new _ _ a b)
