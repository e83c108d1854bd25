-- What is read, field by field.
use Rattle.std.proofs.Common.{rules}
use Rattle.sizes.proofs.Laws.HeaderLoops.{seed_read, sizes_read, held_read}
use Rattle.sizes.proofs.header.Header.read.Goals as goal

pub returns : goal.returns
returns c = (
  sizes_read _ _ _ _ _ _ _ c.requires c.field.ensures c.field-2.ensures c.field-3.ensures c.field-4.ensures c.field-5.ensures
      (seed_read c.args.table.now c.from_fn.result c.from_fn.ensures.items.long (search rules)),
  held_read _ _ c.field-6.ensures,
)
