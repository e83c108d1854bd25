-- Questions and their numbers. Document 01, "Calls and their questions": they run in order, the first "no" ends the call with its number, success is 0.
use Rattle.std.specs.Prelude.{◌≡◌, ◌⊎◌, Bool, true, false, not, ◌&&◌, ◌||◌, cond, List, [], ◌∷◌, ◌++◌, ℕ, ◌*◌, ◌-◌, ltb, leb, eqb, length}
use Rattle.sizes.specs.Sizes.{prime, row, sizes_good, seed_good}
use Rattle.sizes.specs.Header.{seed_in, table_long}
use Rattle.sizes.specs.declared.Sizes.{Sizes}
use Rattle.placement.specs.declared.Order.{Order}
use Rattle.skiplist.specs.Image.{is_image, into, quantities_good, fits}

pub data Question : Type 0 where
  ask : (number : ℕ) → (yes : Bool) → Question

unfoldable pub first_no : List Question → ℕ
first_no [] = 0
first_no (ask n t ∷ qs) = cond t (first_no qs) n

unfoldable pub all_yes : List Question → Bool
all_yes [] = true
all_yes (ask n t ∷ qs) = t && all_yes qs

-- what "the first question that turns it down" means
pub record TurnedDown (n : ℕ) (qs : List Question) : Type 0 where
  pub asked : List Question
  pub later : List Question
  pub is : qs ≡ asked ++ ask n false ∷ later
  pub passed : all_yes asked ≡ true

-- DEMAND 1's first clause: a list of questions gives 0 where each has a yes, and else the number of the first that has a no
unfoldable pub FirstNoMeans : Type 0
FirstNoMeans = (qs : List Question) → ((first_no qs ≡ 0) × (all_yes qs ≡ true)) ⊎ TurnedDown (first_no qs) qs

-- ---- what the questions ask

-- is the key 1..p-1?
unfoldable pub is_key : ℕ → Bool
is_key k = leb 1 k && ltb k prime

-- is the key held?
unfoldable pub held : (key : ℕ) → List Order → Bool
held k [] = false
held k (o ∷ os) = eqb o.key k || held k os

-- the orders without a key, and with an order added or replaced
unfoldable pub without : (key : ℕ) → List Order → List Order
without k [] = []
without k (o ∷ os) = cond (eqb o.key k) os (o ∷ without k os)

unfoldable pub with_order : Order → List Order → List Order
with_order o os = into o (without o.key os)

abbrev pub order : (key total displayed price : ℕ) → Order
order k t d p = record { key = k; total = t; displayed = d; price = p }

-- the orders with keys in lo..hi
unfoldable pub between : (lo hi : ℕ) → List Order → List Order
between lo hi [] = []
between lo hi (o ∷ os) = cond (leb lo o.key && leb o.key hi) (o ∷ between lo hi os) (between lo hi os)

-- what an order keeps in reserve. Document 02, A.2: "only what stands behind a displayed part. A wholly hidden order therefore has reserve 0 from now on;
-- any other has total − displayed"
unfoldable pub reserve : Order → ℕ
reserve o = cond (eqb o.displayed 0) 0 (o.total - o.displayed)

-- the orders that have at least r
unfoldable pub enough : (r : ℕ) → List Order → List Order
enough r [] = []
enough r (o ∷ os) = cond (leb r (reserve o)) (o ∷ enough r os) (enough r os)

-- "With r = 0 hidden orders are still found"
unfoldable pub ZeroFindsAll : Type 0
ZeroFindsAll = (os : List Order) → enough 0 os ≡ os

-- is there an order?
unfoldable pub any_order : List Order → Bool
any_order [] = false
any_order (o ∷ os) = true

-- "the order with the smallest key", document 02, A.5: keys rise, so it is the first. Where there is none, nobody is given this
unfoldable pub lowest : List Order → Order
lowest [] = order 0 0 0 0
lowest (o ∷ os) = o

-- WHAT MAKE IS ASKED: the version, γ, B, N, M, and the seed's bytes
pub record Parameters : Type 0 where
  pub version : ℕ
  pub gamma : ℕ
  pub nodes : ℕ
  pub orders : ℕ
  pub blocks : ℕ
  pub seed : List ℕ

abbrev pub parameters : (version gamma nodes orders blocks : ℕ) → (seed : List ℕ) → Parameters
parameters v c b n m ss = record { version = v; gamma = c; nodes = b; orders = n; blocks = m; seed = ss }

-- the sizes and the ten seed numbers in it
unfoldable pub sizes : Parameters → Sizes
sizes q = record { version = q.version; gamma = q.gamma; nodes = q.nodes; orders = q.orders; blocks = q.blocks; seed = seed_in 10 q.seed }

-- ---- THE QUESTIONS OF EACH CALL, in document 01's order

unfoldable pub asks_make : Parameters → (long : ℕ) → List Question
asks_make q l =
    ask 1 (eqb (length q.seed) 40 && seed_good (sizes q).seed) ∷ ask 2 (sizes_good (sizes q)) ∷ ask 3 (eqb l (table_long (sizes q))) ∷ []

-- every other call first asks whether the bytes are an image
unfoldable pub asks_image : (table : List ℕ) → List Question
asks_image x = ask 4 (is_image x) ∷ []

-- document 02, A.6: "14, after 4 in enter and amend: is the price 0 when the table is version 1?"
unfoldable pub price_allowed : Sizes → (price : ℕ) → Bool
price_allowed s p = cond (eqb s.version 1) (eqb p 0) true

-- the others are asked of a set of orders. Is it an order, and is there room for it? "Price 0 in version 2 answers 6"
unfoldable pub asks_order : Sizes → (key total displayed price : ℕ) → List Question
asks_order s k t d p = ask 14 (price_allowed s p) ∷ ask 5 (is_key k) ∷ ask 6 (quantities_good s t d p) ∷ []

unfoldable pub asks_room : Sizes → Order → List Order → List Question
asks_room s o os = ask 7 (held o.key os || ltb (length os) s.orders) ∷ ask 8 (fits s (with_order o os)) ∷ []

-- Document 02, A.4. "Enter takes a key that is not held and asks 4, 5, 6, 13, 7, 8"; "13, enter only, after 6: is the key free?"
unfoldable pub asks_enter : Sizes → (key total displayed price : ℕ) → List Order → List Question
asks_enter s k t d p os = asks_order s k t d p ++ ask 13 (not (held k os)) ∷ asks_room s (order k t d p) os

-- "Amend replaces the quantities of a held one and asks 4, 5, 6, 9"
unfoldable pub asks_amend : Sizes → (key total displayed price : ℕ) → List Order → List Question
asks_amend s k t d p os = asks_order s k t d p ++ ask 9 (held k os) ∷ []

-- cancel and lookup
unfoldable pub asks_key : (key : ℕ) → List Order → List Question
asks_key k os = ask 5 (is_key k) ∷ ask 9 (held k os) ∷ []

unfoldable pub asks_range : (lo hi : ℕ) → List Question
asks_range lo hi = ask 5 (is_key lo && is_key hi) ∷ ask 10 (leb lo hi) ∷ []

-- span: the bytes of a row for each held key in lo..hi, "and 11 counts those"; seek: an order there with the reserve
unfoldable pub asks_span : Sizes → (lo hi room : ℕ) → List Order → List Question
asks_span s lo hi k os = asks_range lo hi ++ ask 11 (leb (row s * length (between lo hi os)) k) ∷ []

unfoldable pub asks_seek : (lo hi r : ℕ) → List Order → List Question
asks_seek lo hi r os = asks_range lo hi ++ ask 12 (any_order (enough r (between lo hi os))) ∷ []
