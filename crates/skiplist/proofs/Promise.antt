-- All that is promised, proved.
use Rattle.skiplist.specs.Questions.{FirstNoMeans, ZeroFindsAll}
use Rattle.skiplist.specs.Rules.{ImageExactly, PaperPartitions, PaperTop, BetaIs, LevelIs, HashIs, ListsAre, ChunksAre}
use Rattle.skiplist.specs.Promise.{ImageReadsBack, LabelsRise, RuleThree, OneArrangement, FirstAsItWas, SecondArranged, ChunksByKeys, AmendHasRoom, ListsImage, EqualExactly, ChecksExactly}
use Rattle.skiplist.specs.Before.{FirstReader}
use Rattle.skiplist.specs.Paths.{PathFits, PathOneWay}
use Rattle.skiplist.specs.Examples.{OneToNine, ExamplesHold, WithPrices}
use Rattle.skiplist.proofs.Laws.Questions.{first_no_means, zero_finds_all}
use Rattle.skiplist.proofs.Laws.Examples.{examples_hold}
use Rattle.skiplist.proofs.Laws.Before.{first_reader}
use Rattle.skiplist.proofs.Laws.Keys.{chunks_by_keys}
use Rattle.skiplist.proofs.Laws.Kept.{amend_has_room}
use Rattle.skiplist.proofs.Laws.Levels.{beta_is, level_is, hash_is}
use Rattle.skiplist.proofs.Laws.Lists.{lists_are}
use Rattle.skiplist.proofs.Laws.Paper.{paper_partitions, paper_top}
use Rattle.skiplist.proofs.Laws.Pieces.{chunks_are}
use Rattle.skiplist.proofs.Laws.Rising.{labels_do_rise, first_as_it_was}
use Rattle.skiplist.proofs.Laws.Readback.{reads_back, lists_image_holds}
use Rattle.skiplist.proofs.Laws.Third.{equal_exactly, checks_exactly}
use Rattle.skiplist.proofs.Laws.Arranged.{rule_three, one_arrangement, second_arranged}
use Rattle.skiplist.proofs.Laws.PathsKept.{path_fits, path_one_way}
use Rattle.skiplist.proofs.Laws.Rules.{image_exactly}

pub record Proved : Type 0 where
  -- DEMAND 1's first clause
  pub first_no : FirstNoMeans
  -- with r = 0 hidden orders are still found
  pub zero_finds : ZeroFindsAll
  -- DEMAND 2: images
  pub reads : ImageReadsBack
  pub rise : LabelsRise
  pub rule_3 : RuleThree
  pub one_table : OneArrangement
  -- version 1 is arranged as it was, version 2 by higher levels first
  pub first : FirstAsItWas
  pub second : SecondArranged
  pub rules : ImageExactly
  -- a reader built before version 2 turns it down
  pub before : FirstReader
  -- the rules of levels, lists and partitions
  pub hash : HashIs
  pub beta : BetaIs
  pub level : LevelIs
  pub lists : ListsAre
  pub partitions : PaperPartitions
  pub top : PaperTop
  pub pieces : ChunksAre
  -- the way down to a key: no more blocks than the table has, and one partition of each level
  pub paths_fit : PathFits
  pub one_way : PathOneWay
  -- amend has neither 7 nor 8 to ask
  pub by_keys : ChunksByKeys
  pub amend_room : AmendHasRoom
  -- DEMAND 3 over the definitions alone
  pub book : ListsImage
  pub equal : EqualExactly
  pub checks : ChecksExactly
  -- P1 to P9, what they leave open, and version 2
  pub examples : OneToNine
  pub others : ExamplesHold
  pub priced : WithPrices

pub proved : Proved
proved = record {
  first_no = first_no_means;
  zero_finds = zero_finds_all;
  reads = reads_back;
  rise = labels_do_rise;
  rule_3 = rule_three;
  one_table = one_arrangement;
  first = first_as_it_was;
  second = second_arranged;
  rules = image_exactly;
  before = first_reader;
  hash = hash_is;
  beta = beta_is;
  level = level_is;
  lists = lists_are;
  partitions = paper_partitions;
  top = paper_top;
  pieces = chunks_are;
  paths_fit = path_fits;
  one_way = path_one_way;
  by_keys = chunks_by_keys;
  amend_room = amend_has_room;
  book = lists_image_holds;
  equal = equal_exactly reads_back;
  checks = checks_exactly reads_back;
  examples = examples_hold.0;
  others = examples_hold.1;
  priced = examples_hold.2;
}
