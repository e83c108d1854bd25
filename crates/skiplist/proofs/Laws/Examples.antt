-- P1 to P9 of document 01 hold, what they leave open, and version 2: each claim is computed.
use mathlib.Core.Path.{refl}
use Rattle.sizes.specs.Orders.{sort_in, sorted}
use Rattle.sizes.specs.Numbers.{big, value_from, field, rows, rows_in}
use Rattle.sizes.specs.Sizes.{least_power, beta, row, sizes_good, seed_good}
use Rattle.sizes.specs.Hash.{hash_from, h, g, divides_from, level}
use Rattle.sizes.specs.Header.{block_long, table_long, header, sizes_in, held_in, rule_1}
use Rattle.placement.specs.Blocks.{around, stored, place_from, placed}
use Rattle.placement.specs.Labels.{home, same_label, level_before, before}
use Rattle.placement.specs.Chunks.{node_bytes, block_bytes}
use Rattle.placement.specs.Decode.{node_in, head_label, chunk_of, block_of, blocks_in}
use Rattle.skiplist.specs.Lists.{front, at_least, list_at, starts_one, run, rest, partitions, first_key, masked, chunks_of, all_chunks, chunks_from, chunks, blocks, pick, part, last_from, pieces}
use Rattle.skiplist.specs.Image.{image, all_into, gathered, orders_in, price_good, quantities_good, orders_good, fits, same, is_image}
use Rattle.skiplist.specs.Questions.{first_no, is_key, held, without, with_order, between, reserve, enough, any_order, lowest, sizes, asks_make, asks_image, price_allowed, asks_order, asks_room, asks_enter, asks_amend, asks_key, asks_range, asks_span, asks_seek}
use Rattle.skiplist.specs.Paths.{greatest, nodes_upto, labels_from, path_labels, stands_in, descent_path, asks_descent}
use Rattle.skiplist.specs.Book.{make_refusal, asks, changed, refusal, done, after}
use Rattle.skiplist.specs.Examples.{run_seed, run_sizes, priced_sizes, keys_at, block_is, blocks_are, true_of, every, p4, enter_3, enter_6, sized, with_number, one_to_nine, OneToNine, all_different, allows, seed_limits, left_open, ExamplesHold, priced_3, priced_6, with_prices, WithPrices}

pub examples_hold : OneToNine × ExamplesHold × WithPrices
unfolding big value_from field rows rows_in least_power beta row sizes_good seed_good hash_from h g divides_from level block_long table_long header sizes_in held_in rule_1 around stored place_from placed home node_bytes block_bytes node_in head_label chunk_of block_of blocks_in front at_least list_at starts_one run rest partitions first_key masked chunks_of all_chunks chunks_from chunks blocks pick part last_from pieces greatest nodes_upto labels_from path_labels same_label stands_in descent_path asks_descent image sort_in sorted level_before before all_into gathered orders_in price_good quantities_good orders_good fits same is_image first_no is_key held without with_order between reserve enough any_order lowest sizes asks_make asks_image price_allowed asks_order asks_room asks_enter asks_amend asks_key asks_range asks_span asks_seek make_refusal asks changed refusal done after run_seed run_sizes priced_sizes keys_at block_is blocks_are true_of every p4 enter_3 enter_6 sized with_number one_to_nine OneToNine all_different allows seed_limits left_open ExamplesHold priced_3 priced_6 with_prices WithPrices
examples_hold = (refl, refl, refl)
