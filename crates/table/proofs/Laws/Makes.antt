-- What make accepts and reaches.
use mathlib.Core.Path.{◌≡◌, refl, sym, ap, ◌∙◌}
use mathlib.Core.Bool.{true, ◌&&◌, cond}
use mathlib.Core.List.{List, [], ◌∷◌}
use Prim.Native.Nat.{ℕ, ◌/◌, ◌%◌, ◌^◌, ◌<◌}
use native.Mathlib.Omega.{arith}
use borrow.Author.Tests.{eqb-true, eq-eqb, lt-ltb}
use lib.Dec.{eqb}
use lib.ListN.{length, length-replicate, replicate}
use Rattle.sizes.specs.Numbers.{big, rows, rows_in}
use Rattle.sizes.specs.Sizes.{sizes_good, seed_good, made}
use Rattle.sizes.specs.Header.{table_long, header, seed_bytes, seed_in, sizes_in}
use Rattle.placement.specs.Maps.{map_of}
use Rattle.sizes.specs.declared.Sizes.{Sizes}
use Rattle.sizes.proofs.Laws.Sizes.{and_parts, limits}
use Rattle.sizes.proofs.Laws.Headers.{header_long, header_sizes}
use Rattle.placement.proofs.Laws.Tables.{shaped}
use Rattle.skiplist.specs.Lists.{chunks}
use Rattle.skiplist.specs.Image.{image}
use Rattle.skiplist.specs.Questions.{Parameters, parameters, first_no, sizes, asks_make}
use Rattle.skiplist.specs.Book.{make_refusal}
use Rattle.skiplist.specs.Promise.{byte_list}
use Rattle.skiplist.proofs.Laws.Questions.{passes}
use Rattle.skiplist.proofs.Laws.Kept.{kept_none}
use Rattle.skiplist.proofs.Laws.Image.{image_keeps}
use Rattle.table.specs.Calls.{MakeSays}
use Rattle.table.specs.Promise.{word, asked_in_range, MakeReaches, MakeOnly}

-- ACCEPTS only what is allowed
seed_ten : (ss : List ℕ) → eqb (length (seed_in 10 ss)) 10 ≡ true
unfolding rows_in
seed_ten ss = refl

none_long : (s : Sizes) → made s ≡ true → length (image s []) ≡ table_long s
unfolding table_long
none_long s m =
    let k = kept_none s (limits s m) in
    (shaped s (map_of (chunks s [])) (length (chunks s [])) (header s 0) (image s []) (image_keeps s [] m k.good k.fit)).long

pub make_only : MakeOnly
unfolding MakeOnly MakeSays make_refusal first_no asks_make made sizes
make_only q old x h =
    let s = sizes q in
    let u = passes 0 (eqb (length q.seed) 40 && seed_good s.seed) _ (sym h.0) in
    let v = passes 1 (sizes_good s) _ u.1 in
    let w = passes 2 (eqb (length old) (table_long s)) _ v.1 in
    let a : made s ≡ true = rw (v.0, (and_parts (eqb (length q.seed) 40) (seed_good s.seed) u.0).1) (seed_ten q.seed) in
    let e : x ≡ image s [] = h.1 ∙ ap (λ (r : ℕ). cond (eqb r 0) (image s []) old) (sym h.0) in
    (a, e, ap length e ∙ none_long s a ∙ sym (eqb-true (length old) (table_long s) w.0))

-- REACHES every allowed sizes and seed
seed_are_bytes : (ss : List ℕ) → byte_list (seed_bytes ss) ≡ true
unfolding byte_list rows big
seed_are_bytes [] = refl
seed_are_bytes (x ∷ ss) =
    rw (
      lt-ltb (x / 256 ^ 3 % 256) 256 (omega arith),
      lt-ltb (x / 256 ^ 2 % 256) 256 (omega arith),
      lt-ltb (x / 256 ^ 1 % 256) 256 (omega arith),
      lt-ltb (x / 256 ^ 0 % 256) 256 (omega arith),
    ) (seed_are_bytes ss)

-- the seed's bytes are the header's last
seed_back : (s : Sizes) → made s ≡ true → seed_in 10 (seed_bytes s.seed) ≡ s.seed
unfolding header sizes_in big
seed_back s m = ap (λ (t : Sizes). t.seed) (header_sizes s 0 (limits s m))

seed_long : (s : Sizes) → made s ≡ true → length (seed_bytes s.seed) ≡ 40
unfolding header big
seed_long s m = omega (arith, header_long s 0 (limits s m).ten)

pub is_word : (x : ℕ) → x < 4294967296 → word x ≡ true
unfolding word
is_word x h = lt-ltb x 4294967296 h

pub make_reaches : MakeReaches
unfolding MakeReaches make_refusal first_no asks_make sizes asked_in_range
make_reaches s m =
    let w = limits s m in
    let e = seed_back s m in (
      parameters s.version s.gamma s.nodes s.orders s.blocks (seed_bytes s.seed),
      rw (is_word s.version (omega arith), is_word s.gamma (omega arith), is_word s.nodes (omega arith), is_word s.orders (omega arith), is_word s.blocks (omega arith)) (seed_are_bytes s.seed),
      (λ i. record { version = s.version; gamma = s.gamma; nodes = s.nodes; orders = s.orders; blocks = s.blocks; seed = e i }),
      rw (e, eq-eqb (length (seed_bytes s.seed)) 40 (seed_long s m), w.seeds, w.sizes, eq-eqb (table_long s) (table_long s) refl),
    )

-- and then it writes the image of no orders
pub make_writes : (s : Sizes) (q : Parameters) → sizes q ≡ s → make_refusal q (table_long s) ≡ 0 → MakeSays q 0 (replicate (table_long s) 0) (image s [])
unfolding MakeSays
make_writes s q t e =
    let f = ap (make_refusal q) (length-replicate {A = ℕ} (table_long s) 0) ∙ e in
    (sym f, sym (ap (λ (r : ℕ). cond (eqb r 0) (image (sizes q) []) (replicate (table_long s) 0)) f ∙ ap (λ (z : Sizes). image z []) t))
