-- What a descent answers: its parts by its number, an answer to every call of it, and that its quantities are those of a lookup.
use mathlib.Core.Path.{◌≡◌, refl, sym, ◌∙◌, subst}
use mathlib.Core.Bool.{Bool, true, false, cond, false≢true}
use mathlib.Core.List.{List, ◌++◌}
use Prim.Native.Nat.{ℕ, zero, suc, ◌*◌, ◌≤◌}
use native.Mathlib.Omega.{arith}
use borrow.Author.Tests.{leb-true}
use lib.Dec.{leb}
use lib.ListN.{length, drop, length-append, length-drop}
use lib.Seq.{drop_at}
use Rattle.sizes.specs.Numbers.{big, rows}
use Rattle.sizes.specs.Header.{sizes_in, rule_1}
use Rattle.placement.specs.declared.Order.{Order}
use Rattle.sizes.proofs.Laws.Sizes.{and_parts}
use Rattle.sizes.proofs.Laws.Numbers.{length_big}
use Rattle.placement.proofs.Laws.Rows.{length_rows}
use Rattle.skiplist.specs.Image.{is_image, orders_in}
use Rattle.skiplist.specs.Questions.{first_no, asks_image, asks_key, is_key, held}
use Rattle.skiplist.specs.Paths.{descent_path, path_bytes, asks_descent}
use Rattle.skiplist.specs.Book.{lookup, descent, asks, refusal}
use Rattle.table.specs.Calls.{reply, gives, order_of, LookSays, LookAs, asks_first, shown, DescentAs, Within, DescentSays}
use Rattle.table.specs.Promise.{DescentLooksUp}
use Rattle.table.specs.declared.Reply.{Reply}

-- AN ANSWER, by its number
pub number_is : (n c : ℕ) (o : Order) (r : Reply) → r ≡ gives n c o → r.number ≡ n
unfolding gives
number_is zero c o r w = rw w
number_is (suc n) c o r w = rw w

pub count_is : (n c : ℕ) (o : Order) (r : Reply) → r ≡ gives n c o → r.count ≡ c
unfolding gives
count_is zero c o r w = rw w
count_is (suc n) c o r w = rw w

-- one number and one order, whatever the counts
same_order : (n c d : ℕ) (o : Order) (r q : Reply) → r ≡ gives n c o → q ≡ gives n d o →
    (r.number ≡ q.number) × (r.key ≡ q.key) × (r.total ≡ q.total) × (r.displayed ≡ q.displayed) × (r.price ≡ q.price)
unfolding gives
same_order zero c d o r q v w = rw (v, w) (refl, refl, refl, refl, refl)
same_order (suc n) c d o r q v w = rw (v, w) (refl, refl, refl, refl, refl)

-- WITHIN ITS OUTPUT, where that has room for what is shown
pub path_long : (is : List ℕ) → length (path_bytes is) ≡ 2 * length is
unfolding path_bytes
path_long is = length_rows 2 (big 2) (length_big 2) is

pub as_within : (n k : ℕ) (os : List Order) (path : List ℕ) (r : Reply) (o z : List ℕ) → 2 * length (shown n path) ≤ length o → DescentAs n k os path r o z → Within r o z
unfolding DescentAs LookAs
as_within n k os path r o z h w =
    let is = shown n path in
    let c = count_is n (length is) _ r w.0 in
    record {
      long = rw w.1 (simp (length-append, length-drop) (omega (arith, path_long is)));
      room = rw c h;
      behind = rw (c, w.1) (drop_at (path_bytes is) (drop (2 * length is) o) (2 * length is) (path_long is));
    }

-- on an image, question 11 sees to it
image_room : (x : List ℕ) (k : ℕ) (o : List ℕ) → is_image x ≡ true → 2 * length (shown (refusal (descent k o) x) (descent_path (sizes_in x) (orders_in x) k)) ≤ length o
unfolding refusal asks asks_image asks_descent first_no shown
image_room x k o e = rw e (go (is_key k) (leb (2 * length path) (length o)) refl (held k (orders_in x)))
  where
    path : List ℕ
    path = descent_path (sizes_in x) (orders_in x) k

    go : (a b : Bool) → leb (2 * length path) (length o) ≡ b → (c : Bool) → 2 * length (shown (cond a (cond b (cond c 0 9) 11) 5) path) ≤ length o
    go false b f c = omega arith
    go true false f c = omega arith
    go true true f true = omega (arith, leb-true (2 * length path) (length o) f)
    go true true f false = omega (arith, leb-true (2 * length path) (length o) f)

-- AN ANSWER TO EVERY DESCENT: 4 or 5 on any bytes, and on an image all that its orders say
abbrev Answered : (table : List ℕ) → (key : ℕ) → (output : List ℕ) → Type 0
Answered x k o = (r : Reply) × (now : List ℕ) × DescentSays x k r o now

pub image_rule : (x : List ℕ) → is_image x ≡ true → rule_1 x ≡ true
unfolding is_image
image_rule x e = (and_parts (rule_1 x) _ e).0

quiet : (x : List ℕ) (k : ℕ) (o : List ℕ) → (is_image x ≡ true → is_key k ≡ false) → Answered x k o
unfolding refusal asks asks_image asks_descent asks_first first_no shown path_bytes rows DescentAs LookAs gives
quiet x k o f = (
  reply (first_no (asks_first x k)) 0 0 0 0 0,
  o,
  record {
    turned_down = λ h. (refl, refl);
    on_image = λ i. rw (i, image_rule x i, f i) (refl, refl);
    within = record { long = refl; room = omega arith; behind = refl };
  },
)

pub descent_some : (x : List ℕ) (k : ℕ) (o : List ℕ) → Answered x k o
unfolding asks_first first_no DescentAs LookAs
descent_some x k o = go (is_image x) refl (is_key k) refl
  where
    go : (a : Bool) → is_image x ≡ a → (b : Bool) → is_key k ≡ b → Answered x k o
    go false e b f = quiet x k o (λ i. absurd (false≢true (sym e ∙ i)))
    go true e false f = quiet x k o (λ i. f)
    go true e true f =
        let n = refusal (descent k o) x in
        let path = descent_path (sizes_in x) (orders_in x) k in
        let is = shown n path in
        let r = gives n (length is) (order_of k (orders_in x)) in
        let now = path_bytes is ++ drop (2 * length is) o in
        let w : DescentAs n k (orders_in x) path r o now = (refl, refl) in (
          r,
          now,
          record { turned_down = λ h. absurd (h (rw (image_rule x e, f))); on_image = λ i. w; within = as_within n k (orders_in x) path r o now (image_room x k o e) w },
        )

-- THE QUANTITIES ARE THOSE OF A LOOKUP
same_number : (a b c : Bool) → (◌≡◌ {A = ℕ} (cond a (cond b (cond c 0 9) 11) 5) 11 → ⊥) → ◌≡◌ {A = ℕ} (cond a (cond b (cond c 0 9) 11) 5) (cond a (cond c 0 9) 5)
same_number false b c h = refl
same_number true false c h = absurd (h refl)
same_number true true c h = refl

pub descent_looks_up : DescentLooksUp
unfolding DescentLooksUp DescentAs LookSays LookAs refusal asks asks_image asks_descent asks_key first_no
descent_looks_up x k r q o now e w h l =
    let os = orders_in x in
    let path = descent_path (sizes_in x) os k in
    let v = (w.on_image e).0 in
    let n = number_is (refusal (descent k o) x) _ _ r v in
    let same : refusal (descent k o) x ≡ refusal (lookup k) x =
    rw e (same_number (is_key k) (leb (2 * length path) (length o)) (held k os) (λ z. h (n ∙ rw e z))) in
    same_order (refusal (lookup k) x) (length (shown (refusal (descent k o) x) path)) 0 _ r q (subst (λ (i : ℕ). LookAs i (length (shown (refusal (descent k o) x) path)) k os r) same v) l
