-- The parts of a descent: the way down in the bytes of a table, the order where it ends, and a path that was kept.
use Rattle.std.specs.Prelude.{◌≡◌, cond, List, ℕ, ◌-◌, eqb, Option, Some, None, Result, Ok, Err, ok_or}
use Rattle.std.specs.Option.{option_map}
use Rattle.sizes.specs.declared.Geometry.{Geometry}
use Rattle.placement.specs.Decode.{node_of}
use Rattle.placement.specs.declared.Order.{Order}
use Rattle.table.specs.declared.Refusal.{Refusal}
use Rattle.table.specs.declared.Refusal.TheVariants.{NotHeld}
use Rattle.table.specs.declared.Reply.{Reply}
use Rattle.table.specs.Calls.{reply}
use Rattle.table.specs.Refusals.{refused, order_reply}
use Rattle.levels.specs.Ways.{Trek, trek, starting, down_in}

-- the whole way to a key, its path written to an output
abbrev pub way : Geometry → List ℕ → (key : ℕ) → (output : List ℕ) → Trek
way q bs k o = down_in q.sizes bs 0 k (q.top - 0) (trek starting o)

-- the place where a way has ended, if the order there has the key; none where the way has ended at no place
unfoldable pub standing : (w : ℕ) → List ℕ → (at : Option ℕ) → (key : ℕ) → Option ℕ
standing w bs (Some a) k = cond (eqb (node_of w bs a).key k) (Some a) None
standing w bs None k = None

-- the order there
unfoldable pub landed : (w : ℕ) → List ℕ → (at : Option ℕ) → (key : ℕ) → Option Order
landed w bs a k = option_map (node_of w bs) (standing w bs a k)

-- a path that was written to some output, as far as that has room, and how many numbers it has
pub record Written (q : Geometry) (bs : List ℕ) (k count : ℕ) (short : List ℕ) : Type 0 where
  pub output : List ℕ
  pub number : count ≡ (way q bs k output).trail.count
  pub is : short ≡ (way q bs k output).path

-- a reply with a count
abbrev pub counted : (count : ℕ) → Reply → Reply
counted n r = reply r.number r.key r.total r.displayed r.price n

-- the reply that gives how many blocks of a path were written, and the order where it ends; without that it is 9, which has the count too
abbrev pub path_reply : Result (ℕ × Option Order) Refusal → Reply
path_reply (Ok x) = counted x.0 (order_reply (ok_or x.1 NotHeld))
path_reply (Err e) = refused e
