-- The whole check: what rule 1 gives the pass and the walk, and what the three say together.
use Rattle.std.proofs.Common.{Option, Some, None, Result, Ok, Err}
use Rattle.std.specs.Bool.{then_some}
use Rattle.std.specs.Result.{result_ok}
use mathlib.Core.Path.{◌≡◌, refl, ap, sym, ◌∙◌, subst}
use mathlib.Core.Bool.{Bool, true, false, and-false}
use mathlib.Core.List.{List}
use Prim.Native.Nat.{ℕ, ◌+◌, ◌<◌, ◌≤◌}
use native.Mathlib.Omega.{arith}
use Rattle.std.proofs.lemmas.Option.{none-some, same_Some}
use mir.Val.{Fits}
use mir.Syntax.{w32}
use lib.ListN.{length}
use Rattle.sizes.specs.Sizes.{beta, made}
use Rattle.sizes.specs.Header.{block_long, table_long, sizes_in, held_in, rule_1}
use Rattle.placement.specs.Place.{Shaped}
use Rattle.sizes.specs.declared.Sizes.{Sizes}
use Rattle.sizes.proofs.Laws.Sizes.{limits, some_blocks, row_least, row_most}
use Rattle.sizes.proofs.Laws.HeaderLoops.{ruled, rule_short}
use Rattle.table.specs.declared.Seen.{Seen}
use Rattle.table.specs.Walk.{Walkable, opens_of}
use Rattle.table.specs.Check.{swept, walked, ended, check_passes, Passed}

-- bytes of the length that the sizes ask have their form
pub made_shaped : (s : Sizes) (bs : List ℕ) → made s ≡ true → length bs ≡ table_long s → Shaped s bs
unfolding table_long block_long
made_shaped s bs m e =
    let l = limits s m in
    record { long = e; width = refl; least = row_least s; wide = row_most s; few = l.nodes_most; some = some_blocks s m; most = l.blocks_most; seeds = l.seeds }

walkable : (s : Sizes) (bs : List ℕ) → made s ≡ true → length bs ≡ table_long s → Walkable s bs
walkable s bs m e =
    let l = limits s m in
    record { shaped = made_shaped s bs m e; base = l.gamma_least; base_most = l.gamma_most; orders_most = l.orders_most }

-- a pass that gives a count is clean
counted : (r : Result ℕ ℕ) (n : ℕ) → Some n ≡ result_ok r → r ≡ Ok n
counted (Ok m) n e = ap Ok (sym (same_Some n m e))
counted (Err m) n e = absurd (none-some n (sym e))

-- what follows from the header
module _ (bs : List ℕ) (t : Bool) (et : t ≡ rule_1 bs) where
  pub passes_unruled : t ≡ false → check_passes bs ≡ false
  unfolding check_passes
  passes_unruled e = rw (← et, e)

  module _ (e : t ≡ true) where
    module _ (s : Sizes) (es : s ≡ sizes_in bs) where
      pub ruled_walkable : Walkable s bs
      ruled_walkable =
          let r = ruled bs (sym et ∙ e) in
          subst (λ (z : Sizes). Walkable z bs) (sym es) (walkable (sizes_in bs) bs r.makes r.length_is)

      pub ruled_shaped : Shaped s bs
      ruled_shaped = ruled_walkable.shaped

      pub ruled_gamma : 0 < s.gamma
      ruled_gamma = omega (arith, ruled_walkable.base)

      pub ruled_blocks : 0 < s.blocks
      ruled_blocks = ruled_walkable.shaped.some

      pub ruled_base_most : s.gamma ≤ 64
      ruled_base_most = ruled_walkable.base_most

      pub ruled_orders : s.orders ≤ 65535
      ruled_orders = ruled_walkable.orders_most

      -- the front comes by too
      pub ruled_held : (n : ℕ) → n ≡ held_in bs → Fits w32 (n + 1)
      ruled_held n en =
          let r = ruled bs (sym et ∙ e) in
          record { fits = omega (arith, r.held, (limits (sizes_in bs) r.makes).orders_most) }

      module _ (r : Result ℕ ℕ) (er : r ≡ swept s bs) where
        same : swept (sizes_in bs) bs ≡ r
        same = sym (er ∙ ap (λ (z : Sizes). swept z bs) es)

        pub passes_unclean : None ≡ result_ok r → check_passes bs ≡ false
        unfolding check_passes ended
        passes_unclean q = rw (same, ← q, and-false)

        module _ (n : ℕ) (en : Some n ≡ result_ok r) where
          pub passes_counted : swept (sizes_in bs) bs ≡ Ok n
          passes_counted = same ∙ counted r n en

          pub passes_walked : (top held : ℕ) → top ≡ beta s → held ≡ held_in bs → (x : Option Seen) → x ≡ opens_of s bs top 0 (record { low = 0; orders = held + 1; chunks = n })
              → check_passes bs ≡ ended x
          unfolding check_passes walked
          passes_walked top held et' eh x ex =
              let g : top ≡ beta (sizes_in bs) = et' ∙ ap beta es in
              let w : x ≡ opens_of (sizes_in bs) bs (beta (sizes_in bs)) 0 (record { low = 0; orders = held_in bs + 1; chunks = n })
              = ex ∙ (λ i. opens_of (es i) bs (g i) 0 (record { low = 0; orders = eh i + 1; chunks = n })) in
              rw (← et, e, passes_counted) (ap ended (sym w))

-- the count of full blocks, where the walk comes to its end
pub passed_some : (bs : List ℕ) (n : ℕ) → swept (sizes_in bs) bs ≡ Ok n → (t : Bool) → check_passes bs ≡ t → Passed bs (then_some t n)
passed_some bs n e true q = (q, e)
passed_some bs n e false q = q

-- bytes that are too short for a header
pub passes_short : (bs : List ℕ) → length bs < 53 → check_passes bs ≡ false
passes_short bs h = passes_unruled bs false (rule_short bs h) refl
