-- Labels, their order and their homes. Document 01, "Lists, partitions, chunks"; document 02, A.7.
use Rattle.std.specs.Prelude.{ℕ, ◌+◌, ◌*◌, ◌%◌, Bool, cond, ◌&&◌, ◌==◌, nat_lt}
use Rattle.sizes.specs.Orders.{by, lex}
use Rattle.sizes.specs.Sizes.{prime}
use Rattle.sizes.specs.Hash.{g}
use Rattle.sizes.specs.declared.Sizes.{Sizes}
use Rattle.placement.specs.declared.Label.{Label}

-- a label by its parts: level, first key of its partition, chunk number
abbrev pub label : (level first number : ℕ) → Label
label l f i = record { level = l; first = f; number = i }

-- a level before another: the lower one in version 1; document 02, A.7, of version 2: "its labels compare by higher level first"
unfoldable pub level_before : Sizes → (a b : ℕ) → Bool
level_before s a b = cond (s.version == 1) (nat_lt a b) (nat_lt b a)

-- LABELS COMPARE by level, then first key, then chunk number
abbrev pub within : Label → Label → Bool
within = lex (by (λ w. w.first)) (by (λ w. w.number))

unfoldable pub before : Sizes → Label → Label → Bool
before s = lex (λ a b. level_before s a.level b.level) within

-- they are one if all three parts are
unfoldable pub same_label : Label → Label → Bool
same_label a b = a.level == b.level && (a.first == b.first && a.number == b.number)

-- home(label): mod p before mod M. The search for the label starts at this block, and a chunk that is alone stands there
unfoldable pub home : Sizes → Label → ℕ
home s w = (g s w.first + 65536 * w.level + w.number) % prime % s.blocks
