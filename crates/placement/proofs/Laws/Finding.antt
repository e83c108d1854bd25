-- The search by the code, over the labels of blocks, is the search of the theory.
use Rattle.std.proofs.Common.{◌≡◌, ℕ, zero, suc, ◌%◌, ◌<◌, Bool, true, false, cond, ◌≢◌, List, [], get_or, sym, refl, ap, ◌∙◌, mod-lt, arith, ne_eqb, Option, Some, None}
use native.Mathlib.Nat.{mod-mod}
use Rattle.placement.specs.Blocks.{Block, empty, holds, around}
use Rattle.sizes.specs.declared.Sizes.{Sizes}
use Rattle.placement.specs.declared.Order.{Order}
use Rattle.placement.specs.Labels.{label, before, same_label, home}
use Rattle.placement.specs.Chunks.{Chunk, chunk_before}
use Rattle.placement.specs.Place.{probe, passes_label}
use Rattle.placement.specs.Maps.{Map, Keeps, chunk_kind, labelled, nodes_of}
use Rattle.placement.specs.declared.Label.{Label}
use Rattle.placement.proofs.Laws.Search.{at_place, absent, search_step, search_from, Answer}
use Rattle.placement.proofs.Laws.Labels.{labels, labels_one, is_same, isnt_same}
use Rattle.placement.proofs.Laws.Loops.{passes_empty, passes_held}
use Rattle.placement.proofs.Laws.Blocks.{around_mod}
use Rattle.placement.proofs.Laws.Kinds.{rows_found, search_kept, search_answer}
use Rattle.placement.proofs.Laws.Maps.{lawful}
use Rattle.placement.proofs.Laws.Bridge.{Good, held, AllGood, label_of, good_at}
use Rattle.placement.proofs.Laws.Search

-- the block that the theory's search gives
abbrev pub place_of : (m : ℕ) → Search.Found Chunk → Option ℕ
place_of m (at_place i d) = Some (i % m)
place_of m absent = None

module _ (s : Sizes) (w : Label) (pos : 0 < w.level) (ns : List Order) where
  pass_empty : passes_label (before s) (label 0 0 0) w ≡ false
  pass_empty = sym (passes_empty (before s) (label 0 0 0) w refl pos)

  same_empty : same_label (label 0 0 0) w ≡ false
  unfolding same_label
  same_empty = rw (ne_eqb 0 w.level (omega arith))

  pass_held : (d : Label) → 0 < d.level → passes_label (before s) d w ≡ before s d w
  pass_held d l = sym (passes_held (before s) d w (before s d w) refl (omega arith))

  -- the search of the code over the labels is that of the theory over the blocks
  pub probe_theory : (m fuel i : ℕ) (bl : List (Block Chunk)) → AllGood s bl
      → probe (before s) (λ j. label_of (get_or bl j empty)) m w fuel i ≡ place_of m (search_from (chunk_before s) fuel i m (labelled w ns) bl)
  unfolding probe search_from around
  probe_theory m zero i bl v = refl
  probe_theory m (suc f) i bl v = go (get_or bl (i % m) empty) (good_at s v (i % m)) (probe_theory m f (suc i) bl v)
    where
      code : Option ℕ
      code = probe (before s) (λ j. label_of (get_or bl j empty)) m w f (suc i)

      theory : Search.Found Chunk
      theory = search_from (chunk_before s) f (suc i) m (labelled w ns) bl

      go : (b : Block Chunk) → Good s b → code ≡ place_of m theory
          → cond (passes_label (before s) (label_of b) w) code (cond (same_label (label_of b) w) (Some (i % m)) None)
          ≡ place_of m (search_step (chunk_before s) (labelled w ns) i b theory)
      go empty q on = rw (pass_empty, same_empty)
      go (holds d) (held q) on = rw (pass_held d.label q.level) (by (before s d.label w) (before s w d.label) refl refl)
        where
          by : (a b : Bool) → before s d.label w ≡ a → before s w d.label ≡ b
              → cond a code (cond (same_label d.label w) (Some (i % m)) None) ≡ place_of m (cond a theory (cond b absent (at_place i d)))
          by true b h k = on
          by false true h k = rw (isnt_same (labels s) d.label w k)
          by false false h k = rw (is_same d.label w (labels_one s d.label w h k))

-- what the search tells of the map
pub data Told (s : Sizes) (F : Map) (w : Label) (bl : List (Block Chunk)) : Option ℕ → Type 0 where
  is_at : {i : ℕ} → i < s.blocks → around s.blocks bl i ≡ holds (labelled w (nodes_of F w)) → nodes_of F w ≢ [] → Told s F w bl (Some i)
  is_none : nodes_of F w ≡ [] → Told s F w bl None

module _ (s : Sizes) (some : 0 < s.blocks) (F : Map) (n : ℕ) (bl : List (Block Chunk)) (v : AllGood s bl) (k : Keeps s bl F n) (w : Label) (pos : 0 < w.level) where
  told : (r : Search.Found Chunk) → Answer (chunk_before s) s.blocks (labelled w []) bl r → rows_found chunk_kind r ≡ nodes_of F w → Told s F w bl (place_of s.blocks r)
  told (at_place i d) h e =
      let c = labels_one s d.label w h.1 h.2 in
      let same : labelled w (nodes_of F w) ≡ d = λ j. record { label = sym c j; nodes = sym e j } in
      is_at (mod-lt i some) (around_mod s.blocks bl (i % s.blocks) i (mod-mod i s.blocks) ∙ h.0 ∙ ap holds (sym same))
      (λ z. k.map.full d (record { at = i; is = h.0 }) (e ∙ z))
  told absent h e = is_none (sym e)

  pub search_told : Told s F w bl (probe (before s) (λ j. label_of (get_or bl j empty)) s.blocks w s.blocks (home s w))
  search_told =
      rw (probe_theory s w pos [] s.blocks s.blocks (home s w) bl v)
      (told (search_from (chunk_before s) s.blocks (home s w) s.blocks (labelled w []) bl)
      (search_answer (lawful s some) (labelled w []) k) (search_kept (lawful s some) (labelled w []) k))
