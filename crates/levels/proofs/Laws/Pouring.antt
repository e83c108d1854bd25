-- A pouring under way: chunks are taken behind a carry and written from it, until all stand in their new places.
use mathlib.Core.Path.{◌≡◌, refl, sym, ap, ◌∙◌, subst}
use mathlib.Core.List.{List, [], ◌++◌, append-nil}
use Prim.Native.Nat.{ℕ, suc, ◌+◌, ◌*◌, ◌-◌, ◌/◌, ◌≤◌, ◌<◌}
use native.Mathlib.Decide.{dec_lt}
use native.Mathlib.Nat.{div-eq_of_lt, suc-mul, zero-mul, mul-le-mul_right}
use native.Mathlib.Numerals.{add-one}
use native.Mathlib.Omega.{arith}
use lib.ListN.{length, take, drop, length-append, length-drop, length-take}
use lib.Seq.{take-append-le, drop-append-le, take_all, take-nil, drop-nil}
use Rattle.sizes.specs.Sizes.{row}
use Rattle.placement.specs.Labels.{label}
use Rattle.placement.specs.Maps.{Map, Table, Fines, with_nodes, cleared}
use Rattle.placement.specs.Place.{Shaped}
use Rattle.sizes.specs.declared.Sizes.{Sizes}
use Rattle.placement.specs.declared.Order.{Order}
use Rattle.skiplist.proofs.Laws.Count.{pieces}
use Rattle.levels.specs.Edit.{Pieces}
use Rattle.levels.specs.Pour.{Front, one, Takes, Writable, Flushed, waits, writes, Flushes, Pourable, Poured, Pours, Put, Puts}
use Rattle.levels.proofs.Laws.Takes.{one_some}
use Rattle.levels.proofs.Laws.Flushes.{not_none, fines_append, fines_there, fines_drop}
use Rattle.levels.proofs.Laws.MapLabels.{with_other, with_number, cleared_other, cleared_number}
use Rattle.levels.proofs.Laws.Chunking.{pieces_up_to, pieces_pos, chunk_behind, chunk_same, pieces_none, pieces_skip, pieces_pass, pieces_under, pieces_over, pieces_full, one_pieces, quotient_one, quotient_most, drop_next, drop_past, take_past}

-- t chunks are taken, and `done` are written, up to number v; `carry` is in between
pub record Pouring (s : Sizes) (F : Map) (m : ℕ) (hd : List ℕ) (k f j g q : ℕ) (c rest : List Order) (t v left : ℕ) (bs cs : List ℕ) : Type 0 where
  pub map : Map
  pub full : ℕ
  pub table : Table s map full hd bs
  pub done : ℕ
  pub next : v ≡ q + done
  pub carry : List Order
  pub front : Front (row s) cs carry
  pub size : left ≡ length carry
  pub most : length carry < 2 * s.nodes
  pub fine : Fines (row s) carry
  pub todo : carry ++ drop (t * s.nodes) rest ≡ drop (done * s.nodes) (c ++ rest)
  pub filled : done * s.nodes ≤ length (c ++ rest)
  pub written : (i : ℕ) → i < done → map k g (q + i) ≡ take s.nodes (drop (i * s.nodes) (c ++ rest))
  pub empty : (i : ℕ) → v ≤ i → map k g i ≡ []
  pub source : (i : ℕ) → t ≤ i → map k f (j + i) ≡ take s.nodes (drop (i * s.nodes) rest)
  pub gone : (i : ℕ) → i < t → map k f (j + i) ≡ []
  pub elsewhere : (l h i : ℕ) → (l ≡ k → h ≡ g → q ≤ i → ⊥) → (l ≡ k → h ≡ f → j ≤ i → ⊥) → map l h i ≡ F l h i
  pub count : full + t ≡ m + done

module _ (s : Sizes) (F : Map) (m : ℕ) (hd : List ℕ) (k f j count g q : ℕ) (c rest : List Order) (pb : Pourable s F m k f j count g q c rest) where
  pub pouring_start : (n : ℕ) (bs cs : List ℕ) → Table s F m hd bs → Front (row s) cs c → n ≡ length c → Pouring s F m hd k f j g q c rest 0 q n bs cs
  unfolding Pieces
  pouring_start n bs cs t fr en = record {
    map = F;
    full = m;
    table = t;
    done = 0;
    next = omega arith;
    carry = c;
    front = fr;
    size = en;
    most = pb.short;
    fine = pb.fine;
    todo = rw zero-mul;
    filled = rw zero-mul (omega arith);
    written = λ i h. absurd (omega arith);
    empty = pb.target;
    source = λ i h. pb.source i;
    gone = λ i h. absurd (omega arith);
    elsewhere = λ l h i a b. refl;
    count = omega arith;
  }

  module _ (t v left : ℕ) (bs cs : List ℕ) (p : Pouring s F m hd k f j g q c rest t v left bs cs) where
    whole_long : length p.carry + length (drop (t * s.nodes) rest) ≡ length (c ++ rest) - p.done * s.nodes
    whole_long =
        sym (length-append p.carry (drop (t * s.nodes) rest)) ∙ ap length p.todo ∙ length-drop (p.done * s.nodes) (c ++ rest)

    -- how many chunks are still to be written, and to be taken
    to_write : pieces s.nodes (length (c ++ rest)) ≡ p.done + pieces s.nodes (length p.carry + length (drop (t * s.nodes) rest))
    to_write = pieces_skip s.nodes (length (c ++ rest)) p.done pb.some p.filled ∙ rw (← whole_long) refl

    to_take : t ≤ count → pieces s.nodes (length rest) ≡ t + pieces s.nodes (length (drop (t * s.nodes) rest))
    to_take h = pieces_pass s.nodes (length rest) t pb.some (omega (arith, pb.chunks)) ∙ rw (length-drop (t * s.nodes) rest) refl

    -- what a chunk's insertion asks
    pub pouring_room : t ≤ count → pieces s.nodes (length (drop (t * s.nodes) rest)) < pieces s.nodes (length p.carry + length (drop (t * s.nodes) rest))
        → Writable (label k g v) × (p.full < s.blocks)
    pouring_room h more =
        (record { level = pb.level; first = pb.first; number = omega (arith, to_write, pb.few, p.next) }, omega (arith, to_write, to_take h, pb.room, p.count))

    -- A CHUNK TAKEN
    module _ (h : t < count) where
      here : p.map k f (j + t) ≡ take s.nodes (drop (t * s.nodes) rest)
      here = p.source t (omega arith)

      more : one (p.map k f (j + t)) ≡ 1
      more =
          let some = pieces_under s.nodes (length rest) t pb.some (omega (arith, pb.chunks)) in
          one_some (p.map k f (j + t)) (not_none (p.map k f (j + t)) (rw here (simp (length-take, length-drop) (omega (arith, pb.some)))))

      pub pouring_take : left < s.nodes → (bs' cs' : List ℕ) (r : ℕ) → Takes s (label k f (j + t)) left bs bs' cs cs' r → Pouring s F m hd k f j g q c rest (suc t) v r bs' cs'
      unfolding Takes
      pouring_take short bs' cs' r takes =
          let tk = takes p.map p.full hd p.carry p.table pb.level p.front p.size in
          record {
            map = cleared (label k f (j + t)) p.map;
            full = tk.full;
            table = tk.table;
            done = p.done;
            next = p.next;
            carry = p.carry ++ p.map k f (j + t);
            front = tk.front;
            size = tk.size;
            most = rw (length-append, here, length-take) (omega (arith, p.size));
            fine = fines_append (row s) p.carry (p.map k f (j + t)) p.fine (fines_there s p.map p.full hd bs k f (j + t) p.table);
            todo = chunk_behind s.nodes t rest p.carry (p.map k f (j + t)) _ here p.todo;
            filled = p.filled;
            written = λ i a. cleared_other p.map (λ x y w. pb.apart (sym y)) ∙ p.written i a;
            empty = λ i a. cleared_other p.map (λ x y w. pb.apart (sym y)) ∙ p.empty i a;
            source = λ i a. cleared_other p.map (λ x y w. omega arith) ∙ p.source i (omega arith);
            gone = λ i a. cleared_number p.map (λ z. refl) (λ z. p.gone i (omega (arith, z)));
            elsewhere = λ l h i a e. cleared_other p.map (λ x y w. e x y (omega arith)) ∙ p.elsewhere l h i a e;
            count = omega (arith, tk.count, more, p.count);
          }

    -- A CHUNK WRITTEN, if the carry has one
    module _ (h : t ≤ count) where
      -- what a flush asks
      can : s.nodes ≤ length p.carry → Writable (label k g v) × (p.map k g v ≡ []) × (p.full < s.blocks)
      can e =
          let a = length p.carry in
          let r = length (drop (t * s.nodes) rest) in
          let full = pieces_full s.nodes (a + r) pb.some (omega (arith, pb.some)) in
          let u = pouring_room h (omega (arith, pieces_up_to s.nodes r (a + r - s.nodes) pb.some (omega arith))) in
          (u.0, p.empty v (omega arith), u.1)

      module _ (bs' cs' : List ℕ) (r : ℕ) where
        chunk_now : s.nodes ≤ length p.carry → take s.nodes p.carry ≡ take s.nodes (drop (p.done * s.nodes) (c ++ rest))
        chunk_now e = sym (ap (take s.nodes) (sym p.todo) ∙ take-append-le s.nodes p.carry (drop (t * s.nodes) rest) e)

        flushed : Flushed s p.map p.full hd (label k g v) p.carry bs' cs' r → Pouring s F m hd k f j g q c rest t (v + left / s.nodes) r bs' cs'
        flushed (waits a er tb fr) =
            let e : v + left / s.nodes ≡ v = rw (div-eq_of_lt {n = left} {m = s.nodes} (omega (arith, p.size))) (omega arith) in
            rw e (record {
              map = p.map;
              full = p.full;
              table = tb;
              done = p.done;
              next = p.next;
              carry = p.carry;
              front = fr;
              size = er;
              most = p.most;
              fine = p.fine;
              todo = p.todo;
              filled = p.filled;
              written = p.written;
              empty = p.empty;
              source = p.source;
              gone = p.gone;
              elsewhere = p.elsewhere;
              count = p.count;
            })
        flushed (writes a er tb fr) =
            let e : v + left / s.nodes ≡ suc v = rw (quotient_one s.nodes left pb.some (omega (arith, p.size)) (omega (arith, p.size, p.most))) (omega arith) in
            rw e (record {
              map = with_nodes (label k g v) (take s.nodes p.carry) p.map;
              full = suc p.full;
              table = tb;
              done = suc p.done;
              next = omega (arith, p.next);
              carry = drop s.nodes p.carry;
              front = fr;
              size = er;
              most = rw length-drop (omega (arith, p.most));
              fine = fines_drop (row s) s.nodes p.carry p.fine;
              todo =
                  sym (drop-append-le s.nodes p.carry (drop (t * s.nodes) rest) a) ∙ ap (drop s.nodes) p.todo ∙ drop_next s.nodes p.done (c ++ rest);
              filled = omega (arith, whole_long, suc-mul p.done s.nodes, pb.some);
              written = λ i x.
                  with_number p.map _ (λ z. chunk_now a ∙ chunk_same s.nodes (c ++ rest) (omega (arith, p.next))) (λ z. p.written i (omega (arith, z, p.next)));
              empty = λ i x. with_other p.map (λ a b d. omega arith) _ ∙ p.empty i (omega arith);
              source = λ i x. with_other p.map (λ a b d. pb.apart b) _ ∙ p.source i x;
              gone = λ i x. with_other p.map (λ a b d. pb.apart b) _ ∙ p.gone i x;
              elsewhere = λ l x i y z. with_other p.map (λ a b d. y a b (omega (arith, p.next))) _ ∙ p.elsewhere l x i y z;
              count = omega (arith, p.count);
            })

        pub pouring_flush : Flushes s (label k g v) left bs bs' cs cs' r → Pouring s F m hd k f j g q c rest t (v + left / s.nodes) r bs' cs'
        unfolding Flushes
        pouring_flush fl = flushed (fl p.map p.full hd p.carry p.table p.front p.size p.fine can)

    -- THE END: nothing is left to be taken, and the carry stands under the next label
    module _ (end : count ≤ t) where
      all_taken : (n : ℕ) → t ≤ n → length rest ≤ n * s.nodes
      all_taken n h = pieces_over s.nodes (length rest) n pb.some (omega (arith, pb.chunks))

      none_left : drop (t * s.nodes) rest ≡ []
      none_left = drop_past (t * s.nodes) rest (all_taken t (omega arith))

      carry_long : length p.carry + length (drop (t * s.nodes) rest) ≡ length p.carry
      carry_long = rw none_left (omega arith)

      pub last_can : t ≤ count → 0 < left → Writable (label k g v) × (p.full < s.blocks)
      last_can h pos =
          let some = pieces_pos s.nodes (length p.carry) pb.some (omega (arith, p.size)) in
          pouring_room h (rw (carry_long, none_left) (omega (arith, pieces_none s.nodes)))

      module _ (inside : t ≤ count) (short : left < s.nodes) (bs' : List ℕ) (w : Put s p.map p.full hd (label k g v) p.carry bs') where
        carried : p.carry ≡ drop (p.done * s.nodes) (c ++ rest)
        carried = sym (append-nil p.carry) ∙ ap (λ (z : List Order). p.carry ++ z) (sym none_left) ∙ p.todo

        past_end : (n : ℕ) → p.done < n → length (c ++ rest) ≤ n * s.nodes
        past_end n h = omega (arith, whole_long, carry_long, p.size, suc-mul p.done s.nodes, mul-le-mul_right s.nodes h)

        stands : (n : ℕ) → (n ≡ p.done → ⊥) → Dec (n < p.done) → p.map k g (q + n) ≡ take s.nodes (drop (n * s.nodes) (c ++ rest))
        stands n z (yes a) = p.written n a
        stands n z (no a) = p.empty (q + n) (omega (arith, p.next, a)) ∙ sym (take_past s.nodes (n * s.nodes) (c ++ rest) (past_end n (omega (arith, a, z))))

        gone_end : (n : ℕ) → Dec (n < t) → p.map k f (j + n) ≡ []
        gone_end n (yes d) = p.gone n d
        gone_end n (no d) = p.source n (omega (arith, d)) ∙ take_past s.nodes (n * s.nodes) rest (all_taken n (omega (arith, d)))

        pub pouring_end : Poured s F m hd k f j g q c rest bs'
        unfolding Pieces
        pouring_end = record {
          map = with_nodes (label k g v) p.carry p.map;
          full = w.full;
          table = w.table;
          there = λ n.
              with_number p.map p.carry
              (λ z. sym (take_all s.nodes p.carry (omega (arith, p.size))) ∙ ap (take s.nodes) carried ∙ chunk_same s.nodes (c ++ rest) (omega (arith, p.next)))
              (λ z. stands n (λ e. z (omega (arith, p.next))) (dec_lt n p.done));
          gone = λ n. with_other p.map (λ a b d. pb.apart b) _ ∙ gone_end n (dec_lt n t) ∙ sym (rw (drop-nil, take-nil));
          elsewhere = λ l x i y z. with_other p.map (λ a b d. y a b (omega (arith, p.next))) _ ∙ p.elsewhere l x i y z;
          count = omega (arith, w.count, p.count, pb.chunks, to_write, one_pieces s.nodes p.carry (omega (arith, p.size)), ap (pieces s.nodes) carry_long);
        }

-- AS `pour` ASKS: what its loop keeps, from where it begins, after the first flush
pub record Turning (s : Sizes) (k f j count g q v₀ left₀ : ℕ) (bs₀ cs₀ : List ℕ) (t v left : ℕ) (bs cs : List ℕ) : Type 0 where
  pub two : 2 ≤ s.nodes
  pub room : q + 1 + count < 4294967296
  pub shaped : Shaped s bs
  pub within : t ≤ count
  pub short : left < s.nodes
  pub next : v ≤ q + 1 + t
  pub on : (F : Map) (m : ℕ) (hd : List ℕ) (c rest : List Order) → Pourable s F m k f j count g q c rest → Pouring s F m hd k f j g q c rest 0 v₀ left₀ bs₀ cs₀
      → Pouring s F m hd k f j g q c rest t v left bs cs

module _ (s : Sizes) (k f j count g q : ℕ) where
  module _ (v₀ left₀ : ℕ) (bs₀ cs₀ : List ℕ) (t v left : ℕ) (bs cs : List ℕ) (i : Turning s k f j count g q v₀ left₀ bs₀ cs₀ t v left bs cs) where
    pub turning_more : t < count → (bs₁ cs₁ : List ℕ) (r : ℕ) → r ≤ left + s.nodes
        → Takes s (label k f (j + t)) left bs bs₁ cs cs₁ r → (bs₂ cs₂ : List ℕ) (r₂ : ℕ) → Shaped s bs₂ → (r < 2 * s.nodes → r₂ < s.nodes) → Flushes s (label k g v) r bs₁ bs₂ cs₁ cs₂ r₂
        → Turning s k f j count g q v₀ left₀ bs₀ cs₀ (t + 1) (v + r / s.nodes) r₂ bs₂ cs₂
    turning_more h bs₁ cs₁ r most tk bs₂ cs₂ r₂ shaped less fl =
        let e : r < 2 * s.nodes = omega (arith, i.short) in
        record {
          two = i.two;
          room = i.room;
          shaped = shaped;
          within = omega arith;
          short = less e;
          next = omega (arith, i.next, quotient_most s.nodes r (omega (arith, i.two)) e);
          on = λ F m hd c rest pb p₀.
              let p = pouring_take s F m hd k f j count g q c rest pb t v left bs cs (i.on F m hd c rest pb p₀) h i.short bs₁ cs₁ r tk in
              rw add-one (pouring_flush s F m hd k f j count g q c rest pb (suc t) v r bs₁ cs₁ p h bs₂ cs₂ r₂ fl);
        }

  pub pour_made : (n : ℕ) (bs₀ cs₀ bs₁ cs₁ : List ℕ) (left₁ : ℕ) → Flushes s (label k g q) n bs₀ bs₁ cs₀ cs₁ left₁ → (t v left : ℕ) (bs cs : List ℕ)
      → Turning s k f j count g q (q + n / s.nodes) left₁ bs₁ cs₁ t v left bs cs → count ≤ t → (bs' : List ℕ) → Puts s (label k g v) left bs bs' cs → Pours s k f j count g q n bs₀ bs' cs₀
  unfolding Pours Puts
  pour_made n bs₀ cs₀ bs₁ cs₁ left₁ fl t v left bs cs i end bs' pt F m hd c rest tb fr en pb =
      let p₀ = pouring_start s F m hd k f j count g q c rest pb n bs₀ cs₀ tb fr en in
      let p = i.on F m hd c rest pb (pouring_flush s F m hd k f j count g q c rest pb 0 q n bs₀ cs₀ p₀ (omega arith) bs₁ cs₁ left₁ fl) in
      let w = pt p.map p.full hd p.carry p.table p.front (omega (arith, p.size)) p.fine (p.empty v (omega arith))
      (last_can s F m hd k f j count g q c rest pb t v left bs cs p end i.within) in
      let all : take left p.carry ≡ p.carry = take_all left p.carry (omega (arith, p.size)) in
      pouring_end s F m hd k f j count g q c rest pb t v left bs cs p end i.within i.short bs'
      (subst (λ (z : List Order). Put s p.map p.full hd (label k g v) z bs') all w)
