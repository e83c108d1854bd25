-- How many chunks so many nodes have, and the chunks of a list one by one.
use mathlib.Core.Path.{◌≡◌, refl, sym, ap, ◌∙◌}
use mathlib.Core.List.{List, [], ◌∷◌, ◌++◌, append_assoc}
use Prim.Native.Nat.{ℕ, zero, suc, ◌+◌, ◌*◌, ◌-◌, ◌/◌, ◌≤◌, ◌<◌}
use native.Mathlib.Decide.{dec_lt}
use native.Mathlib.Nat.{le_of_mul-le-mul_right, suc-mul, add-mul, zero-add, zero-mul, sub-zero, div-eq_of_lt, div-eq-sub-div, div-lt_iff_lt-mul, div-mul-le_self}
use native.Mathlib.Omega.{arith}
use lib.ListN.{length, take, drop, length-drop, take-append-drop, drop_of_length-le}
use lib.Seq.{drop-drop, take-nil}
use Rattle.placement.specs.declared.Order.{Order}
unfoldable pub use Rattle.skiplist.proofs.Laws.Count.{pieces}
pub use Rattle.skiplist.proofs.Laws.Count.{pieces_none, pieces_full, pieces_under, pieces_over, pieces_most, pieces_up_to}
use Rattle.placement.specs.Maps.{Map}
use Rattle.levels.specs.Edit.{Pieces}
use Rattle.levels.specs.Pour.{one}

-- i chunks, of those that there are, and the others
pub pieces_pass : (b n i : ℕ) → 0 < b → i ≤ pieces b n → pieces b n ≡ i + pieces b (n - i * b)
pieces_pass b n zero h g = rw (zero-mul, sub-zero) (omega arith)
pieces_pass b n (suc i) h g =
    let e = suc-mul i b in
    let f : n - b - i * b ≡ n - suc i * b = omega arith in
    let z = pieces_full b n h (omega (arith, pieces_under b n i h g)) in
    z ∙ ap suc (pieces_pass b (n - b) i h (omega arith)) ∙ rw f (omega arith)

pub pieces_skip : (b n i : ℕ) → 0 < b → i * b ≤ n → pieces b n ≡ i + pieces b (n - i * b)
pieces_skip b n i h g = pieces_pass b n i h (le_of_mul-le-mul_right {k = b} (omega (arith, pieces_over b n (pieces b n) h (omega arith))) h)

pub pieces_pos : (b n : ℕ) → 0 < b → 0 < n → 0 < pieces b n
pieces_pos b n h g = omega (arith, pieces_full b n h g)

-- half as many as nodes, where a chunk has two or more
pub number_half : (b m : ℕ) → 2 ≤ b → 2 * (m / b) ≤ m
number_half b m h = omega (arith, div-mul-le_self m b, less (m / b) b h)
  where
    less : (x b : ℕ) → 2 ≤ b → 2 * x ≤ x * b
    less zero b h = omega arith
    less (suc x) b h = omega (arith, less x b h, suc-mul x b)

pub pieces_half : (b n : ℕ) → 2 ≤ b → 2 * pieces b n ≤ n + 1
unfolding pieces
pieces_half b zero h = omega arith
pieces_half b (suc n) h = omega (arith, number_half b n h)

-- a quotient of a carry below two chunks
pub quotient_one : (b n : ℕ) → 0 < b → b ≤ n → n < 2 * b → n / b ≡ 1
quotient_one b n p h g = let z : (n - b) / b ≡ 0 = div-eq_of_lt (omega arith) in rw (div-eq-sub-div p h, z)

pub quotient_most : (b n : ℕ) → 0 < b → n < 2 * b → n / b ≤ 1
quotient_most b n p h = omega (arith, (div-lt_iff_lt-mul {x = n} {y = 2} p).1 h)

-- CHUNKS OF A LIST
module _ {A : Type 0} where
  pub drop_next : (b i : ℕ) (l : List A) → drop b (drop (i * b) l) ≡ drop (suc i * b) l
  drop_next b i l = drop-drop b (i * b) l ∙ ap (λ (z : ℕ). drop z l) (sym (suc-mul i b))

  -- a chunk, and the nodes after it
  pub chunk_rest : (b i : ℕ) (l : List A) → take b (drop (i * b) l) ++ drop (suc i * b) l ≡ drop (i * b) l
  chunk_rest b i l = rw (← drop_next b i l) (take-append-drop b (drop (i * b) l))

  -- .. a chunk x comes behind a carry
  pub chunk_behind : (b i : ℕ) (l c x w : List A) → x ≡ take b (drop (i * b) l) → c ++ drop (i * b) l ≡ w → (c ++ x) ++ drop (suc i * b) l ≡ w
  chunk_behind b i l c x w e h = append_assoc c x (drop (suc i * b) l) ∙ rw (e, chunk_rest b i l) h

  -- chunks of one number
  pub chunk_same : (b : ℕ) (l : List A) {i j : ℕ} → i ≡ j → take b (drop (i * b) l) ≡ take b (drop (j * b) l)
  chunk_same b l e = ap (λ (n : ℕ). take b (drop (n * b) l)) e

  pub drop_add : (b i n : ℕ) (l : List A) → drop (n * b) (drop (i * b) l) ≡ drop ((i + n) * b) l
  drop_add b i n l = drop-drop (n * b) (i * b) l ∙ ap (λ (z : ℕ). drop z l) (sym (add-mul i n b))

  pub drop_past : (n : ℕ) (l : List A) → length l ≤ n → drop n l ≡ []
  drop_past n l h = drop_of_length-le l h

  pub take_past : (b n : ℕ) (l : List A) → length l ≤ n → take b (drop n l) ≡ []
  take_past b n l h = rw (drop_past n l h) (take-nil b)

-- the first chunk, or none, and the others
pub pieces_first : (b : ℕ) (l : List Order) → 0 < b → pieces b (length l) ≡ one (take b l) + pieces b (length (drop b l))
unfolding one pieces
pieces_first zero l h = absurd (omega arith)
pieces_first (suc b) [] h = refl
pieces_first (suc b) (x ∷ l) h = pieces_full (suc b) (length (x ∷ l)) h (omega arith) ∙ rw (← length-drop (suc b) (x ∷ l)) (omega arith)

-- .. from chunk i on
pub pieces_next : (b i : ℕ) (l : List Order) → 0 < b → pieces b (length (drop (i * b) l)) ≡ one (take b (drop (i * b) l)) + pieces b (length (drop (suc i * b) l))
pieces_next b i l h = pieces_first b (drop (i * b) l) h ∙ rw (drop_next b i l) refl

pub one_pieces : (b : ℕ) (l : List Order) → length l ≤ b → pieces b (length l) ≡ one l
unfolding one pieces
one_pieces b [] h = refl
one_pieces b (x ∷ l) h = ap suc (div-eq_of_lt (omega arith))

-- PIECES of a list
module _ (F : Map) (b k f : ℕ) where
  pub pieces_at : (ns : List Order) (i : ℕ) → Pieces F b k f 0 ns → F k f i ≡ take b (drop (i * b) ns)
  unfolding Pieces
  pieces_at ns i p = ap (F k f) (sym (zero-add i)) ∙ p i

  pub pieces_from : (ns : List Order) (i : ℕ) → Pieces F b k f 0 ns → Pieces F b k f i (drop (i * b) ns)
  unfolding Pieces
  pieces_from ns i p n = pieces_at ns (i + n) p ∙ ap (take b) (sym (drop_add b i n ns))

  pub pieces_join : (ns : List Order) (i : ℕ) → ((n : ℕ) → n < i → F k f n ≡ take b (drop (n * b) ns)) → Pieces F b k f i (drop (i * b) ns) → Pieces F b k f 0 ns
  unfolding Pieces
  pieces_join ns i low high n = ap (F k f) (zero-add n) ∙ go (dec_lt n i)
    where
      go : Dec (n < i) → F k f n ≡ take b (drop (n * b) ns)
      go (yes h) = low n h
      go (no h) =
          let e : i + (n - i) ≡ n = omega (arith, h) in
          ap (F k f) (sym e) ∙ high (n - i) ∙ ap (take b) (drop_add b i (n - i) ns ∙ ap (λ (z : ℕ). drop (z * b) ns) e)
