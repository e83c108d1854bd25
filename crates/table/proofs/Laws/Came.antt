-- What comes by between two states of a walk, and the nodes of a chunk as a list.
use Rattle.std.proofs.Common.{Option, Some, None, option_and_then}
use mathlib.Core.Path.{◌≡◌, refl, sym, ◌∙◌, subst}
use mathlib.Core.Bool.{Bool, true, false, ◌&&◌, cond}
use mathlib.Core.List.{List, [], ◌∷◌, ◌++◌}
use Prim.Native.Nat.{ℕ, zero, suc, ◌+◌, ◌*◌, ◌≤◌, ◌<◌}
use native.Mathlib.Omega.{arith}
use lib.Dec.{eqb}
use lib.ListN.{length, drop, length-append}
use lib.Seq.{drop-drop}
use Rattle.sizes.specs.Numbers.{rows_in}
use Rattle.sizes.specs.Sizes.{prime, row}
use Rattle.sizes.specs.Header.{block_long}
use Rattle.placement.specs.Decode.{node_of, nodes_from}
use Rattle.sizes.specs.declared.Sizes.{Sizes}
use Rattle.placement.specs.declared.Order.{Order}
use Rattle.table.specs.declared.Seen.{Seen}
use Rattle.table.specs.Walk.{quantities_ok, price_ok, node_good, nodes_by, enters_ok, entered_seen, count_in, chunk_by}

-- what a node has besides its key: its price and its quantities
unfoldable pub weighs : Sizes → (l : ℕ) → Order → Bool
weighs s l o = price_ok s l o && quantities_ok l o

-- .. of four bytes each, where it stands at level 1
abbrev pub Weighs : Sizes → Order → Type 0
Weighs s o = (weighs s 1 o ≡ true) × (o.total < 4294967296) × (o.price < 4294967296)

-- keys rise from a on, to just below b
abbrev pub Rising : Sizes → (a : ℕ) → List Order → (b : ℕ) → Type 0
Rising s a [] b = a ≡ b
Rising s a (y ∷ ys) b = (a ≤ y.key) × (y.key < prime) × Weighs s y × Rising s (suc y.key) ys b

pub rising_both : (s : Sizes) (a c b : ℕ) (xs zs : List Order) → Rising s a xs c → Rising s c zs b → Rising s a (xs ++ zs) b
rising_both s a c b [] zs u v = subst (λ (i : ℕ). Rising s i zs b) (sym u) v
rising_both s a c b (x ∷ xs) zs u v = (u.0, u.1, u.2, rising_both s (suc x.key) c b xs zs u.3 v)

pub rising_split : (s : Sizes) (a b : ℕ) (xs zs : List Order) → Rising s a (xs ++ zs) b → (c : ℕ) × Rising s a xs c × Rising s c zs b
rising_split s a b [] zs u = (a, refl, u)
rising_split s a b (x ∷ xs) zs u = let w = rising_split s (suc x.key) b xs zs u.3 in (w.0, (u.0, u.1, u.2, w.1), w.2)

-- the orders seg and c chunks come by between x and z
pub record Step (s : Sizes) (x : Seen) (seg : List Order) (c : ℕ) (z : Seen) : Type 0 where
  pub rising : Rising s x.low seg z.low
  pub orders : x.orders ≡ length seg + z.orders
  pub chunks : x.chunks ≡ c + z.chunks

pub step_none : {s : Sizes} (x : Seen) → Step s x [] 0 x
step_none x = record { rising = refl; orders = omega arith; chunks = omega arith }

pub step_both : {s : Sizes} (x y z : Seen) (a b : List Order) (c d : ℕ) → Step s x a c y → Step s y b d z → Step s x (a ++ b) (c + d) z
step_both {s} x y z a b c d u v =
    record {
      rising = rising_both s x.low y.low z.low a b u.rising v.rising;
      orders = simp length-append (omega (arith, u.orders, v.orders));
      chunks = omega (arith, u.chunks, v.chunks);
    }

pub record Between (s : Sizes) (x : Seen) (a : List Order) (c : ℕ) (b : List Order) (d : ℕ) (z : Seen) : Type 0 where
  pub state : Seen
  pub first : Step s x a c state
  pub then : Step s state b d z

pub step_split : {s : Sizes} (x z : Seen) (a b : List Order) (c d : ℕ) → Step s x (a ++ b) (c + d) z → Between s x a c b d z
step_split {s} x z a b c d u =
    let w = rising_split s x.low z.low a b u.rising in
    let n : x.orders ≡ length a + (length b + z.orders) = u.orders ∙ simp length-append (omega arith) in
    record {
      state = record { low = w.0; orders = length b + z.orders; chunks = d + z.chunks };
      first = record { rising = w.1; orders = n; chunks = omega (arith, u.chunks) };
      then = record { rising = w.2; orders = refl; chunks = refl };
    }

-- THE NODES OF A CHUNK as a list
unfoldable pub nodes_on : ((key : ℕ) → Seen → Option Seen) → Sizes → (level first : ℕ) → (opens : Bool) → List Order → Seen → Option Seen
nodes_on d s l f o [] x = Some x
nodes_on d s l f o (n ∷ ns) x = cond (node_good s l f o n) (option_and_then (nodes_on d s l f false ns) (d n.key x)) None

-- the nodes that a block says
unfoldable pub chunk_read : Sizes → List ℕ → (b : ℕ) → List Order
chunk_read s bs b = nodes_from (row s) (count_in (block_long s) bs b) (drop (53 + b * block_long s + 8) bs)

module _ (d : (key : ℕ) → Seen → Option Seen) (s : Sizes) (bs : List ℕ) (l f : ℕ) where
  pub nodes_are : (n a : ℕ) (o : Bool) (x : Seen) → nodes_by d s bs l f n a o x ≡ nodes_on d s l f o (nodes_from (row s) n (drop a bs)) x
  unfolding nodes_by nodes_on rows_in node_of
  nodes_are zero a o x = refl
  nodes_are (suc n) a o x =
      let e : nodes_by d s bs l f n (a + row s) false ≡ nodes_on d s l f false (nodes_from (row s) n (drop (a + row s) bs)) = λ i y. nodes_are n (a + row s) false y i in
      rw (e, drop-drop)

  pub chunk_are : (i b : ℕ) (x : Seen) → chunk_by d s bs l f i b x
      ≡ cond (enters_ok s.nodes (count_in (block_long s) bs b) x) (nodes_on d s l f (eqb i 0) (chunk_read s bs b) (entered_seen x)) None
  unfolding chunk_by chunk_read
  chunk_are i b x = rw nodes_are
