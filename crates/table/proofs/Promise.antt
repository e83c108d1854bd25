-- All that is promised of images, of single calls and of whole lists of calls, proved. That the program keeps the contracts which these statements cite is proved with its functions.
use Rattle.skiplist.proofs.Promise.{Proved, proved}
use Rattle.table.specs.Promise.{Demand3, Demand3Check, RunsExist, RepliesFixed, MakeFixed, RunsFixed, MakeReaches, MakeOnly, Demand2Rules, Demand2Lookup, OrderHasKey, Demand2Descent, DescentLooksUp, Demand2Span, Demand2Seek, SeekLowest, SeekNext, PricesAre, Demand1}
use Rattle.table.proofs.Laws.Makes.{make_only, make_reaches}
use Rattle.table.proofs.Laws.Fixed.{runs_exist, replies_fixed, make_fixed, runs_fixed}
use Rattle.table.proofs.Laws.Alike.{order_has_key}
use Rattle.table.proofs.Laws.Descents.{descent_looks_up}
use Rattle.table.proofs.Laws.Sought.{seek_lowest, seek_next, prices_are}
use Rattle.table.proofs.Laws.Reached.{demand_3_check}
use Rattle.table.proofs.Laws.Demands.{demand_3, demand_2_rules, demand_2_lookup, demand_2_descent, demand_2_span, demand_2_seek, demand_1}

pub record KeptPromise : Type 0 where
  -- images, their rules and the definitions: all that the crate below promises
  pub images : Proved
  -- DEMAND 1: after any list, each call answers the number that the plain book has for it
  pub numbers : Demand1
  -- DEMAND 2: after any list, the published rules, and the orders read back by number, by descent, by span, by seek; a descent's quantities are a lookup's, a seek's key is the smallest, and the next seek gives the next; an order of version 1 has price 0, one of version 2 a price
  pub rules : Demand2Rules
  pub lookups : Demand2Lookup
  pub own_key : OrderHasKey
  pub descents : Demand2Descent
  pub looks_up : DescentLooksUp
  pub spans : Demand2Span
  pub seeks : Demand2Seek
  pub smallest : SeekLowest
  pub next : SeekNext
  pub prices : PricesAre
  -- DEMAND 3: equal bytes exactly where the plain books are equal, and the check accepts exactly such bytes
  pub equal_bytes : Demand3
  pub checks : Demand3Check
  -- the contracts can be met, and fix every answer and every table; make reaches every allowed sizes and seed, and accepts no others
  pub runs : RunsExist
  pub replies : RepliesFixed
  pub makes : MakeFixed
  pub fixed : RunsFixed
  pub reaches : MakeReaches
  pub only : MakeOnly

pub kept_promise : KeptPromise
kept_promise = record {
  images = proved;
  numbers = demand_1;
  rules = demand_2_rules;
  lookups = demand_2_lookup;
  own_key = order_has_key;
  descents = demand_2_descent;
  looks_up = descent_looks_up;
  spans = demand_2_span;
  seeks = demand_2_seek;
  smallest = seek_lowest;
  next = seek_next;
  prices = prices_are;
  equal_bytes = demand_3;
  checks = demand_3_check;
  runs = runs_exist;
  replies = replies_fixed;
  makes = make_fixed;
  fixed = runs_fixed;
  reaches = make_reaches;
  only = make_only;
}
