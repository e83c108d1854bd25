use Rattle.std.proofs.Common.{rules, refl, sym, ◌∙◌, append-nil, arith, length-set}
use Rattle.sizes.specs.Numbers.{rows_in}
use Rattle.answers.proofs.Laws.Blocks.{keying_more}
use Rattle.answers.proofs.Laws.Orders.{rows_start, rows_next, rows_few, row_key, rows_end}
use Rattle.answers.proofs.printing.keys.Goals as goal

pub bounds-row-i : goal.bounds-row-i
bounds-row-i c =
    let l = c.loop-i.invariant in
    let h = c.in-Some.ensures.steps in
    omega (arith, l.whole, h.1, rows_few _ _ _ _ _ _ (rw h.0.1.0 at l.rows) (h.0.1.1 ∙ l.size) c.requires.1)

pub loop-i-init : goal.loop-i-init
unfolding rows_in
loop-i-init c = rw (c.into_iter-i-iterator.ensures.into_iter_gives, c.enumerate-i-items.ensures.count, c.enumerate-i-items.ensures.source) (record {
  whole = search rules;
  size = c.chunks_exact.ensures.size;
  rows = rows_start _ _ _ _ _ c.requires.0 refl c.chunks_exact.ensures.rest;
  is = sym (append-nil _);
})

pub loop-i-preserved : goal.loop-i-preserved
loop-i-preserved c =
    let l = c.loop-i.invariant in
    let h = c.in-Some.ensures.steps in
    let r = rw h.0.1.0 at l.rows in
    let w = h.0.1.1 ∙ l.size in
    rw (h.1, h.2) (record {
      whole = length-set _ _ _ ∙ l.whole;
      size = h.0.0 ∙ l.size;
      rows = rows_next _ _ _ _ _ _ r w;
      is = keying_more _ _ _ _ _ _ l.whole (omega (arith, rows_few _ _ _ _ _ _ r w c.requires.1)) (row_key _ _ _ _ _ _ r w c.requires.1 ∙ sym c.be4.ensures) l.is;
    })

pub returns : goal.returns
returns c =
    let l = c.loop-i.invariant in
    let h = c.in-None.ensures.steps in
    rw (rows_end _ _ _ _ _ l.rows (omega (arith, h.0.1.0, l.size))) at l.is
