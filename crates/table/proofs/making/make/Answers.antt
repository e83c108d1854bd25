-- Sizes and seed that pass the questions are those of a table.
use Rattle.std.proofs.Common.{◌∙◌}
use Rattle.sizes.proofs.Laws.Sizes.{limits}
use Rattle.table.proofs.Laws.Making.{given_made}
use Rattle.table.proofs.making.make.Goals as goal

pub table_length-requires : goal.table_length-requires
table_length-requires c =
    let m = limits _ (given_made _ _ c.sizes_of-s.ensures c.if-not-seed_allowed.ensures c.if-not-sizes_allowed.ensures) in (m.nodes_most, m.blocks_most)

pub write_empty-requires : goal.write_empty-requires
write_empty-requires c =
    (given_made _ _ c.sizes_of-s.ensures c.if-not-seed_allowed.ensures c.if-not-sizes_allowed.ensures, c.if-table-table_length.false ∙ c.table_length.ensures)
