-- The step of one line, put together from what its call did and what was printed.
use Rattle.std.proofs.Common.{Option, None, Some, Result, Ok, Err, is_ok, option_map}
use mathlib.Core.Path.{◌≡◌, refl, ap, sym, ◌∙◌, subst}
use mathlib.Core.Logic.{◌≢◌}
use mathlib.Core.Bool.{Bool, true, false, cond}
use mathlib.Core.List.{List, [], ◌∷◌, ◌++◌}
use Prim.Native.Nat.{ℕ, zero, suc, ◌+◌, ◌≤◌, ◌<◌}
use native.Mathlib.Omega.{arith}
use lib.Dec.{ltb, eqb}
use lib.ListN.{length, take, drop, length-append, take-append-drop}
use lib.Seq.{length-take-le, length_front, drop_at}
use borrow.Author.Tests.{lt-ltb, le-ltb, eq-eqb, ne_eqb}
use Rattle.lines.specs.Text.{row}
use Rattle.lines.specs.declared.Call.{Call}
use Rattle.lines.specs.declared.Call.TheVariants.{Make, Put, Cancel}
use Rattle.skiplist.specs.Image.{image}
use Rattle.table.specs.declared.Refusal.{Refusal}
use Rattle.table.specs.Calls.{MakeSays, EditSays, CancelSays}
use Rattle.table.specs.Refusals.{answer}
use Rattle.table.proofs.Laws.Refusals.{number_some}
use Rattle.answers.specs.Answers.{answer_lines, mark_lines, make_number, make_lines, make_leaves, MakeDoes, leaves, prints, Step}
use Rattle.answers.specs.Asked.{piece, sizes_asked, long_asked, MakeAsked}
use Rattle.answers.specs.Output.{Said}
use Rattle.answers.specs.Put.{PutDoes}
use Rattle.answers.specs.Table.{Held, Front}
use Rattle.answers.specs.declared.printer.Printer.{Printer}
use Rattle.answers.proofs.Laws.Buffers.{front_now, behind_now}

-- a number alone
alone : (n : ℕ) → row n [] ∷ [] ≡ answer_lines n [] []
unfolding answer_lines
alone zero = refl
alone (suc n) = refl

-- a call that is done answers 0, and one that is refused another number
done_zero : (r : Result (Unit {0}) Refusal) → true ≡ is_ok r → answer r ≡ 0
done_zero (Ok u) e = refl
done_zero (Err f) e = cc

refused_some : (r : Result (Unit {0}) Refusal) → false ≡ is_ok r → answer r ≢ 0
refused_some (Ok u) e = cc
refused_some (Err f) e = λ z. omega (arith, (number_some f).1)

-- a buffer's two parts are as long as it
parts_long : (n : ℕ) (x : List ℕ) → length (take n x) + length (drop n x) ≡ length x
parts_long n x = sym (length-append (take n x) (drop n x)) ∙ ap length (take-append-drop n x)

-- MAKE, of a table that lies in a buffer
module _ (p : List ℕ) (long : ℕ) (e : long ≡ long_asked p) where
  pub make_marked : (table : Held) → 65536 < long → MakeDoes p None table table
  unfolding make_leaves
  make_marked table h =
      let t : ltb 65536 (long_asked p) ≡ true = ap (ltb 65536) (sym e) ∙ lt-ltb 65536 long h in
      record { number = sym (rw t); left = sym (rw t); behind = sym (drop_at table.bytes table.behind (length table.bytes) refl); whole = refl }

  module _ (r : Result (Unit {0}) Refusal) (l : ℕ) (buffer z : List ℕ) (whole : length buffer ≡ 65536) (h : long ≤ 65536) (w : length z ≡ length (take long buffer))
      (f : MakeAsked p (answer r) (take long buffer) z) where
    abbrev n : ℕ
    n = answer r

    within : long ≤ length buffer
    within = omega arith

    abbrev now : List ℕ
    now = z ++ drop long buffer

    abbrev table : Held
    table = record { bytes = take l buffer; behind = drop l buffer }

    number_is : n ≡ make_number p
    unfolding make_number MakeSays
    number_is = f.0 ∙ rw (length-take-le long buffer within ∙ e)

    table_is : z ≡ cond (eqb n 0) (image (sizes_asked p) []) (take long buffer)
    unfolding MakeSays sizes_asked
    table_is = f.1 ∙ ap (λ (k : ℕ). cond (eqb k 0) (image (sizes_asked p) []) (take long buffer)) (sym f.0)

    short : ltb 65536 (long_asked p) ≡ false
    short = ap (ltb 65536) (sym e) ∙ le-ltb 65536 long h

    answered : Some n ≡ cond (ltb 65536 (long_asked p)) None (Some (make_number p))
    answered = sym (rw (short, number_is))

    -- what it leaves, where it is refused and where not
    left_so : (x : List ℕ) → cond (eqb n 0) (image (sizes_asked p) []) x ≡ make_leaves p x
    unfolding make_leaves
    left_so x = sym (rw (short, number_is))

    parts : table.bytes ++ table.behind ≡ buffer
    parts = take-append-drop l buffer

    pub make_done : true ≡ is_ok r → MakeDoes p (Some n) table (record { bytes = take long now; behind = drop long now })
    make_done k =
        let b = eq-eqb n 0 (done_zero r k) in
        let front = front_now long buffer z within w in
        record {
          number = answered;
          left = front ∙ (rw b at table_is) ∙ (rw b at (left_so table.bytes));
          behind = behind_now long buffer z within w ∙ rw (front, w, length-take-le long buffer within, parts);
          whole = parts_long long now ∙ length_front buffer z long w ∙ sym (parts_long l buffer);
        }

    pub make_refused : false ≡ is_ok r → MakeDoes p (Some n) table (record { bytes = take l now; behind = drop l now })
    make_refused k =
        let b = ne_eqb n 0 (refused_some r k) in
        let same : now ≡ buffer = rw (rw b at table_is) (take-append-drop long buffer) in
        rw same (record { number = answered; left = rw b at (left_so table.bytes); behind = sym (drop_at table.bytes table.behind (length table.bytes) refl); whole = refl })

-- A LINE
module _ (c : Option Call) (p : List ℕ) (room : ℕ) (table : Held) (to : Printer) where
  -- a reading, or no call at all
  pub step_kept : (b : Option Call) (to' : Printer) → c ≡ b → leaves b p table.bytes ≡ table.bytes → Said to (prints b p room table.bytes) to' → Step c p room table to table to'
  step_kept b to' e a s = record { left = rw e (sym a); behind = sym (drop_at table.bytes table.behind (length table.bytes) refl); whole = refl; said = rw e s }

  -- an edit: its number is all that it prints
  module _ (new : Held) (to' : Printer) (n : ℕ) (s : Said to (row n [] ∷ []) to') where
    step_changed : (Says : (table table_now : List ℕ) → Type 0) → Front table new Says → new.bytes ≡ leaves c p table.bytes → answer_lines n [] [] ≡ prints c p room table.bytes → Step c p room table to new to'
    step_changed Says f a e = record {
      left = a;
      behind = f.behind ∙ sym (drop_at table.bytes table.behind (length new.bytes) (sym f.long));
      whole = rw (f.long, f.behind);
      said = subst (λ (ls : List (List ℕ)). Said to ls to') (alone n ∙ e) s;
    }

    pub step_put : c ≡ Some Put → Front table new (PutDoes (piece p 1) (piece p 2) (piece p 3) n) → Step c p room table to new to'
    unfolding leaves prints PutDoes
    step_put e f = step_changed _ f (rw e f.says.1) (rw (e, f.says.0))

    pub step_cancel : c ≡ Some Cancel → Front table new (CancelSays (piece p 1) n) → Step c p room table to new to'
    unfolding leaves prints CancelSays EditSays
    step_cancel e f = step_changed _ f (rw e f.says.1) (rw (e, f.says.0))

  -- a make: its number, or that there is no call
  module _ (new : Held) (to' : Printer) (r : Option (Result (Unit {0}) Refusal)) (m : c ≡ Some Make) (d : MakeDoes p (option_map answer r) table new) where
    step_make : (ls : List (List ℕ)) → make_lines p ≡ ls → Said to ls to' → Step c p room table to new to'
    unfolding leaves prints
    step_make ls e s = record { left = d.left ∙ rw m; behind = d.behind; whole = d.whole; said = rw (m, e) s }

    pub step_made : (made : Result (Unit {0}) Refusal) → r ≡ Some made → Said to (row (answer made) [] ∷ []) to' → Step c p room table to new to'
    unfolding make_lines
    step_made made e s = step_make _ (go (ltb 65536 (long_asked p)) (make_number p) (sym (ap (option_map answer) e) ∙ d.number) ∙ sym (alone (answer made))) s
      where
        go : (t : Bool) (k : ℕ) → Some (answer made) ≡ cond t None (Some k) → cond t mark_lines (answer_lines k [] []) ≡ answer_lines (answer made) [] []
        go true k h = cc
        go false k h = let same : answer made ≡ k = cc in rw same

    pub step_marked : r ≡ None → Said to mark_lines to' → Step c p room table to new to'
    unfolding make_lines
    step_marked e s = step_make _ (go (ltb 65536 (long_asked p)) (make_number p) (sym (ap (option_map answer) e) ∙ d.number)) s
      where
        go : (t : Bool) (k : ℕ) → None ≡ cond t None (Some k) → cond t mark_lines (answer_lines k [] []) ≡ mark_lines
        go true k h = refl
        go false k h = cc
