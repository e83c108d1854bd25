-- Of two parts that do not overlap either may be written first.
use Rattle.std.proofs.Common.{◌≡◌, refl, ◌∙◌, inl, ℕ, suc, ◌+◌, ◌≤◌, List, [], ◌∷◌, length, set, take, drop, arith}
use Rattle.std.proofs.Math.Seq.{sets}
use Rattle.sizes.proofs.Laws.Parts.{set_sets, length_part}
use Rattle.sizes.proofs.numbers.exchange.Goals as goal

sets_apart : (l : List ℕ) (a : ℕ) (xs : List ℕ) (b : ℕ) (ys : List ℕ) → b + length ys ≤ a → sets (sets l b ys) a xs ≡ sets (sets l a xs) b ys
sets_apart l a xs b [] h = refl
sets_apart l a xs b (y ∷ ys) h = sets_apart (set l b y) a xs (suc b) ys (omega arith) ∙ rw (set_sets l a xs b y (inl (omega arith)))

pub returns-else-a-b : goal.returns-else-a-b
returns-else-a-b c =
    let s = c.args.s.now in
    let n = c.args.n in
    let e = length_part n c.args.a s c.requires.0 in
    c.trade-else-a-b.ensures ∙ sets_apart s c.args.a (take n (drop c.args.b s)) c.args.b (take n (drop c.args.a s)) (omega arith)
