-- A map with other nodes under one label, or with a label cleared: what it has under that label, and under others.
use mathlib.Core.Path.{◌≡◌, refl, sym, ap, ◌∙◌}
use mathlib.Core.List.{List, []}
use Prim.Native.Nat.{ℕ}
use Rattle.placement.specs.Labels.{label}
use Rattle.placement.specs.Maps.{Map, nodes_of, with_nodes, cleared, with_chunk, without_label}
use Rattle.placement.specs.declared.Order.{Order}
use Rattle.placement.specs.declared.Label.{Label}
use Rattle.placement.proofs.Laws.Labels.{LabelIs, is, isnt, label_is}

-- by cases: the label itself, or another
with_each : (w : Label) (ns : List Order) (F : Map) (l h i : ℕ) (x : List Order) → (label l h i ≡ w → ns ≡ x) → ((label l h i ≡ w → ⊥) → F l h i ≡ x)
    → with_nodes w ns F l h i ≡ x
unfolding with_chunk
with_each w ns F l h i x a b = go (label_is w (label l h i))
  where
    go : LabelIs w (label l h i) → with_nodes w ns F l h i ≡ x
    go (is z p) = rw z (a (sym p))
    go (isnt z n) = rw z (b (λ p. n (sym p)))

-- under another label
module _ (F : Map) {k f n l h i : ℕ} (other : l ≡ k → h ≡ f → i ≡ n → ⊥) where
  pub with_other : (ns : List Order) → with_nodes (label k f n) ns F l h i ≡ F l h i
  with_other ns = with_each (label k f n) ns F l h i (F l h i) (λ p. absurd (other (λ j. (p j).level) (λ j. (p j).first) (λ j. (p j).number))) (λ p. refl)

  pub cleared_other : cleared (label k f n) F l h i ≡ F l h i
  unfolding with_chunk without_label
  cleared_other = with_other []

-- under some number of its partition
module _ (F : Map) {k f n i : ℕ} {x : List Order} where
  pub with_number : (ns : List Order) → (i ≡ n → ns ≡ x) → ((i ≡ n → ⊥) → F k f i ≡ x) → with_nodes (label k f n) ns F k f i ≡ x
  with_number ns a b = with_each (label k f n) ns F k f i x (λ p. a (λ j. (p j).number)) (λ p. b (λ e. p (ap (label k f) e)))

  pub cleared_number : (i ≡ n → [] ≡ x) → ((i ≡ n → ⊥) → F k f i ≡ x) → cleared (label k f n) F k f i ≡ x
  unfolding with_chunk without_label
  cleared_number = with_number []

-- no nodes under a label: it is cleared
pub cleared_is : (w : Label) (F : Map) → cleared w F ≡ with_nodes w [] F
unfolding with_chunk without_label
cleared_is w F = refl

-- .. and if there were none, it was before
pub with_none : (w : Label) (F : Map) → nodes_of F w ≡ [] → with_nodes w [] F ≡ F
with_none w F e = λ j l h i. with_each w [] F l h i (F l h i) (λ p. sym e ∙ ap (nodes_of F) (sym p)) (λ p. refl) j
