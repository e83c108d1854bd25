-- Orders, told by what is before what: by a number, and by one order after another; and lists sorted by an order.
use Rattle.std.specs.Prelude.{Bool, ◌&&◌, ◌||◌, not, cond, List, [], ◌∷◌, ℕ, ltb}

-- the smaller number first, or the larger
abbrev pub by : {A : Type 0} → (A → ℕ) → A → A → Bool
by f a b = ltb (f a) (f b)

abbrev pub down : {A : Type 0} → (A → ℕ) → A → A → Bool
down f a b = ltb (f b) (f a)

-- by p, and where neither is before the other by q
abbrev pub lex : {A : Type 0} → (p q : A → A → Bool) → A → A → Bool
lex p q a b = p a b || (not (p b a) && q a b)

-- one among others: it comes before the first that it is before
unfoldable pub sort_in : {A : Type 0} → (before : A → A → Bool) → A → List A → List A
sort_in before x [] = x ∷ []
sort_in before x (y ∷ ys) = cond (before x y) (x ∷ y ∷ ys) (y ∷ sort_in before x ys)

unfoldable pub sorted : {A : Type 0} → (before : A → A → Bool) → List A → List A
sorted before [] = []
sorted before (x ∷ xs) = sort_in before x (sorted before xs)
