-- Headers written: the values of the fields, and all seventeen in turn.
use mathlib.Core.Path.{◌≡◌, refl, ap, sym, ◌∙◌}
use mathlib.Core.List.{List, [], ◌∷◌, ◌++◌, append_assoc, append-nil}
use mathlib.Core.Bool.{true}
use Prim.Native.Nat.{ℕ, zero, suc, ◌+◌, ◌-◌, ◌/◌, ◌%◌, ◌≤◌, ◌<◌}
use native.Mathlib.Numerals.{add-one}
use native.Mathlib.Nat.{zero-add, div-one, mod-eq_of_lt}
use native.Mathlib.Omega.{arith}
use lib.ListN.{length, get_or, take, drop, length-append}
use lib.Seq.{sets, sets-eq, length-sets, take-suc, take_all}
use Rattle.sizes.specs.declared.Sizes.{Sizes}
use Rattle.sizes.specs.Numbers.{big, rows}
use Rattle.sizes.specs.Sizes.{made}
use Rattle.sizes.specs.Header.{header_at, header_wide, table_long, header, header_value}
use Rattle.sizes.proofs.Laws.Sizes.{Limits, limits}
use Rattle.sizes.proofs.Laws.Numbers.{length_big}
use Rattle.sizes.proofs.Laws.Parts.{sets_append}
use Rattle.sizes.proofs.Laws.Headers.{header_long}
use Rattle.sizes.proofs.Laws.HeaderLoops.{header_next, seed_wide}

-- THE VALUES OF THE FIELDS
abbrev past_six : ℕ → ℕ
past_six i = suc (suc (suc (suc (suc (suc (suc i))))))

seven : (i : ℕ) → 7 + i ≡ past_six i
seven i = omega arith

pub value_past : (s : Sizes) (n i : ℕ) → header_value s n (7 + i) ≡ get_or s.seed i 0
unfolding header_value
value_past s n i = rw (seven i)

pub value_seed : (s : Sizes) (n k : ℕ) → 7 ≤ k → get_or s.seed (k - 7) 0 ≡ header_value s n k
value_seed s n k h =
    let e : 7 + (k - 7) ≡ k = omega arith in
    sym (value_past s n (k - 7)) ∙ rw e

-- A HEADER WRITTEN: the bytes of the first k fields
pub fields : Sizes → (n k : ℕ) → List ℕ
fields s n zero = []
fields s n (suc k) = fields s n k ++ big (header_wide k) (header_value s n k)

fields_more : (s : Sizes) (n k : ℕ) → fields s n (suc k) ≡ fields s n k ++ big (header_wide k) (header_value s n k)
unfolding fields
fields_more s n k = refl

fields_long : (s : Sizes) (n k : ℕ) → k < 17 → length (fields s n k) ≡ header_at k
unfolding fields
fields_long s n zero h = refl
fields_long s n (suc k) h =
    let e = fields_long s n k (omega arith) in
    let f : header_at k + header_wide k ≡ header_at (suc k) = header_next k (omega arith) ∙ rw add-one in
    rw (length-append, length_big, e) f

rows_snoc : (f : ℕ → List ℕ) (xs : List ℕ) (x : ℕ) → rows f (xs ++ (x ∷ [])) ≡ rows f xs ++ f x
unfolding rows
rows_snoc f [] x = append-nil (f x)
rows_snoc f (y ∷ xs) x = ap (λ (z : List ℕ). f y ++ z) (rows_snoc f xs x) ∙ sym (append_assoc (f y) (rows f xs) (f x))

fields_seed : (s : Sizes) (n i : ℕ) → length s.seed ≡ 10 → i ≤ 10 → fields s n (past_six i) ≡ fields s n 7 ++ rows (big 4) (take i s.seed)
unfolding rows
fields_seed s n zero ten h = sym (append-nil _)
fields_seed s n (suc i) ten h =
    let e = fields_seed s n i ten (omega arith) in
    let l : i < length s.seed = omega arith in
    let w : header_wide (past_six i) ≡ 4 = ap header_wide (sym (seven i)) ∙ seed_wide i h in
    let v : header_value s n (past_six i) ≡ get_or s.seed i 0 = ap (header_value s n) (sym (seven i)) ∙ value_past s n i in
    let t : rows (big 4) (take (suc i) s.seed) ≡ rows (big 4) (take i s.seed) ++ big 4 (get_or s.seed i 0) = rw (take-suc s.seed i 0) (rows_snoc (big 4) (take i s.seed) (get_or s.seed i 0)) in
    fields_more s n (past_six i) ∙ rw (e, w, v, t) (append_assoc (fields s n 7) (rows (big 4) (take i s.seed)) (big 4 (get_or s.seed i 0)))

byte : (v : ℕ) → v ≤ 255 → v / 1 % 256 ≡ v
byte v h = rw div-one (mod-eq_of_lt (omega arith))

fields_head : (s : Sizes) (n : ℕ) → Limits s → fields s n 7 ≡ (s.version ∷ []) ++ big 4 (table_long s) ++ (s.gamma ∷ s.nodes ∷ []) ++ big 2 s.orders ++ big 2 s.blocks ++ big 2 n
unfolding fields header_value big
fields_head s n l = rw (byte s.version (omega (arith, l.version_most)), byte s.gamma (omega (arith, l.gamma_most)), byte s.nodes (omega (arith, l.nodes_most)))

fields_all : (s : Sizes) (n : ℕ) → Limits s → fields s n 17 ≡ header s n
unfolding header
fields_all s n l =
    fields_seed s n 10 l.ten (omega arith) ∙ rw (fields_head s n l, take_all 10 s.seed (omega (arith, l.ten)))

-- what the loop of `Header::write` keeps: k fields are written
pub record Heading (s : Sizes) (n : ℕ) (l t : List ℕ) (k : ℕ) : Type 0 where
  pub within : k ≤ 17
  pub same : length t ≡ length l
  pub is : t ≡ sets l 0 (fields s n k)

module _ (s : Sizes) (n : ℕ) (l : List ℕ) where
  pub heading_start : Heading s n l l 0
  unfolding fields
  heading_start = record { within = omega arith; same = refl; is = refl }

  module _ (t : List ℕ) (k : ℕ) (i : Heading s n l t k) where
    pub heading_more : (u : List ℕ) (a w v : ℕ) → k < 17 → a ≡ header_at k → w ≡ header_wide k → v ≡ header_value s n k → u ≡ sets t a (big w v) → Heading s n l u (k + 1)
    heading_more u a w v h ea ew ev e =
        let f : a ≡ 0 + length (fields s n k) = ea ∙ sym (rw zero-add (fields_long s n k h)) in
        record {
          within = omega arith;
          same = rw e (length-sets t a (big w v) ∙ i.same);
          is = e ∙ rw (add-one, fields_more, ew, ev, i.is, f) (sym (sets_append l 0 (fields s n k) _));
        }

    pub heading_end : made s ≡ true → 53 ≤ length l → 17 ≤ k → t ≡ header s n ++ drop 53 l
    heading_end m h g =
        let e : k ≡ 17 = omega (arith, i.within) in
        let f : fields s n 17 ≡ header s n = fields_all s n (limits s m) in
        let q : length (header s n) ≡ 53 = header_long s n (limits s m).ten in
        i.is ∙ rw (e, f, sets-eq (header s n) l 0 (omega arith), zero-add, q)

module _ (s : Sizes) (m : made s ≡ true) where
  pub made_nodes : s.nodes ≤ 32
  made_nodes = (limits s m).nodes_most

  pub made_blocks : s.blocks ≤ 65535
  made_blocks = (limits s m).blocks_most

-- what `Header::write` asks
pub ruleset writing = (heading_end, made_nodes, made_blocks)
