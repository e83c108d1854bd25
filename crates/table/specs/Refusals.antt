-- Why a call is turned down, and what its Result says as documents 01 and 02 have it: a number, or a reply.
use Rattle.std.specs.Prelude.{ℕ, Result, Ok, Err}
use Rattle.placement.specs.declared.Order.{Order}
use Rattle.table.specs.declared.Refusal.{Refusal}
use Rattle.table.specs.declared.Refusal.TheVariants.{BadSeed, BadSizes, BadLength, NoImage, NoKey, BadQuantities, OrdersFull, BlocksFull, NotHeld, LoAboveHi, OutputShort, NoReserve, HeldAlready, NoPrices}
use Rattle.table.specs.declared.Reply.{Reply}
use Rattle.table.specs.Calls.{reply}

-- the number of the question. Document 01, "Calls and their questions"; document 02, A.4 for 13 and A.6 for 14
abbrev pub number_of : Refusal → ℕ
number_of BadSeed = 1
number_of BadSizes = 2
number_of BadLength = 3
number_of NoImage = 4
number_of NoKey = 5
number_of BadQuantities = 6
number_of OrdersFull = 7
number_of BlocksFull = 8
number_of NotHeld = 9
number_of LoAboveHi = 10
number_of OutputShort = 11
number_of NoReserve = 12
number_of HeldAlready = 13
number_of NoPrices = 14

-- the number that a call answers. Document 01: "the first "no" ends the call with its number", "Success is 0"
abbrev pub answer : {A : Type 0} → Result A Refusal → ℕ
answer (Ok x) = 0
answer (Err e) = number_of e

-- on a refusal all other parts of a reply are 0
abbrev pub refused : Refusal → Reply
refused e = reply (number_of e) 0 0 0 0 0

-- the reply that gives an order. Document 02, A.6: "Lookup, descent and seek give the price too"
abbrev pub order_reply : Result Order Refusal → Reply
order_reply (Ok o) = reply 0 o.key o.total o.displayed o.price 0
order_reply (Err e) = refused e

-- the reply that gives how many orders a span wrote
abbrev pub count_reply : Result ℕ Refusal → Reply
count_reply (Ok n) = reply 0 0 0 0 0 n
count_reply (Err e) = refused e
