-- Rule 3 leaves only one arrangement of the same chunks.
use Rattle.std.proofs.Common.{◌≡◌, ℕ, zero, suc, ◌+◌, ◌%◌, ◌<◌, ◌≤◌, Bool, true, false, List, [], ◌∷◌, length, get_or, sym, refl, ap, ◌∙◌, true≢false, arith}
use Rattle.placement.specs.Blocks.{Block, empty, holds, around, holds_smaller, Stands, Rule3}
use Rattle.sizes.proofs.Laws.Round.{Which, which, less, same, more}
use Rattle.placement.proofs.Laws.Blocks.{around_mod, same_table, Far, far, Ordered}

-- the label in a block that holds a smaller one
pub record Found {A : Type 0} (before : A → A → Bool) (c : A) (b : Block A) : Type 0 where
  pub chunk : A
  pub is : b ≡ holds chunk
  pub smaller : before chunk c ≡ true

pub found : {A : Type 0} (before : A → A → Bool) (c : A) (b : Block A) → holds_smaller before c b ≡ true → Found before c b
found before c empty h = absurd (true≢false cc)
found before c (holds d) h = record { chunk = d; is = refl; smaller = h }

-- how many blocks hold a label before that of c
abbrev count : Bool → ℕ
count false = 0
count true = 1

abbrev rank : {A : Type 0} → (A → A → Bool) → List (Block A) → A → ℕ
rank before [] c = 0
rank before (b ∷ bs) c = count (holds_smaller before c b) + rank before bs c

count_le : (p q : Bool) → (p ≡ true → q ≡ true) → count p ≤ count q
count_le false q h = omega arith
count_le true q h = rw (h refl) (omega arith)

module _ {A : Type 0} {home : A → ℕ} {before : A → A → Bool} {m : ℕ} (ord : Ordered home before m) where
  smaller_chain : (d c : A) (b : Block A) → before d c ≡ true → holds_smaller before d b ≡ true → holds_smaller before c b ≡ true
  smaller_chain d c empty h s = s
  smaller_chain d c (holds e) h s = ord.chain e d c s h

  rank_le : (bs : List (Block A)) (d c : A) → before d c ≡ true → rank before bs d ≤ rank before bs c
  rank_le [] d c h = omega arith
  rank_le (b ∷ bs) d c h = omega (arith, rank_le bs d c h, count_le _ _ (smaller_chain d c b h))

  rank_lt : (bs : List (Block A)) (j : ℕ) (d c : A) → get_or bs j empty ≡ holds d → before d c ≡ true → rank before bs d < rank before bs c
  rank_lt [] j d c e h = absurd (true≢false cc)
  rank_lt (b ∷ bs) zero d c e h = rw (e, ord.strict, h) (omega (arith, rank_le bs d c h))
  rank_lt (b ∷ bs) (suc j) d c e h = omega (arith, rank_lt bs j d c e h, count_le _ _ (smaller_chain d c b h))

module _ {A : Type 0} {home : A → ℕ} {before : A → A → Bool} {m : ℕ} (ord : Ordered home before m) where
  -- where a table has the chunk, the other has it at that place
  abbrev Agree : (bs cs : List (Block A)) → A → Type 0
  Agree bs cs c = (i : ℕ) → around m bs i ≡ holds c → around m cs i ≡ holds c

  -- what stands k steps on in one table, where the other needs a smaller label
  clash : (bs cs : List (Block A)) (c : A) (k l : ℕ) → around m bs (home c + k) ≡ holds c
      → l < m → around m cs (home c + l) ≡ holds c → Rule3 home before m cs → k < l
      → ((d : A) → before d c ≡ true → Stands m cs d → Agree cs bs d) → ⊥
  clash bs cs c k l e g f r h ih =
      let w = found before c (around m cs (home c + k)) (r c l g f k h) in
      let a : around m bs (home c + k) ≡ holds w.chunk = ih w.chunk w.smaller (record { at = home c + k; is = w.is }) (home c + k) w.is in
      true≢false (cc (ord.strict c, w.smaller))

  agree_step : (bs cs : List (Block A)) (c : A) → Rule3 home before m bs → Rule3 home before m cs → (Stands m bs c → Stands m cs c)
      → ((d : A) → before d c ≡ true → Stands m bs d → Agree bs cs d) → ((d : A) → before d c ≡ true → Stands m cs d → Agree cs bs d) → Agree bs cs c
  agree_step bs cs c r q t to fro i e =
      let s = t (record { at = i; is = e }) in
      let x = far ord bs c i e in
      let y = far ord cs c s.at s.is in
      go x y (which x.steps y.steps)
    where
      go : {j : ℕ} (x : Far home m bs c i) (y : Far home m cs c j) → Which x.steps y.steps → around m cs i ≡ holds c
      go x y (less h) = absurd (clash bs cs c x.steps y.steps x.is y.few y.is q h fro)
      go x y (same h) = around_mod m cs i (home c + x.steps) (sym x.there) ∙ ap (λ (k : ℕ). around m cs (home c + k)) h ∙ y.is
      go x y (more h) = absurd (clash cs bs c y.steps x.steps y.is x.few x.is r h to)

  -- the rank of a chunk bounds the induction
  agree_below : (bs cs : List (Block A)) → length bs ≡ m → Rule3 home before m bs → Rule3 home before m cs
      → ((c : A) → Stands m bs c → Stands m cs c) → ((c : A) → Stands m cs c → Stands m bs c)
      → (n : ℕ) (c : A) → rank before bs c < n → Agree bs cs c × Agree cs bs c
  unfolding around
  agree_below bs cs p r q to fro zero c l = absurd (omega arith)
  agree_below bs cs p r q to fro (suc n) c l =
      let lower : (d : A) → before d c ≡ true → Stands m bs d → rank before bs d < n =
      λ d h s. omega (arith, rank_lt ord bs (s.at % m) d c s.is h) in
      let one : (d : A) → before d c ≡ true → Stands m bs d → Agree bs cs d × Agree cs bs d =
      λ d h s. agree_below bs cs p r q to fro n d (lower d h s) in (
        agree_step bs cs c r q (to c) (λ d h s. (one d h s).0) (λ d h s. (one d h (fro d s)).1),
        agree_step cs bs c q r (fro c) (λ d h s. (one d h (fro d s)).1) (λ d h s. (one d h s).0),
      )

  -- RULE 3 LEAVES ONE ARRANGEMENT: two tables that keep it and hold the same chunks are equal
  pub one_arrangement : (bs cs : List (Block A)) → length bs ≡ m → length cs ≡ m → Rule3 home before m bs → Rule3 home before m cs
      → ((c : A) → Stands m bs c → Stands m cs c) → ((c : A) → Stands m cs c → Stands m bs c) → bs ≡ cs
  one_arrangement bs cs p p' r q to fro = same_table m bs cs p p' (λ i. go i (around m bs i) (around m cs i) refl refl)
    where
      both : (c : A) → Agree bs cs c × Agree cs bs c
      both c = agree_below bs cs p r q to fro (suc (rank before bs c)) c (omega arith)

      go : (i : ℕ) (a b : Block A) → around m bs i ≡ a → around m cs i ≡ b → around m bs i ≡ around m cs i
      go i empty empty e f = cc
      go i empty (holds d) e f = cc ((both d).1 i f)
      go i (holds c) b e f = cc ((both c).0 i e)
