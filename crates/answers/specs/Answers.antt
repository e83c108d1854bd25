-- What each line prints. Document 01, "The program and one full run".
use Rattle.std.specs.Prelude.{◌≡◌, cond, Option, None, Some, List, [], ◌∷◌, ◌++◌, map, ℕ, ◌+◌, zero, suc, ltb, eqb, length, drop}
use Rattle.lines.specs.declared.Call.{Call}
use Rattle.lines.specs.declared.Call.TheVariants.{Make, Put, Cancel, Show, Span, Seek, Blocks}
use Rattle.lines.specs.Text.{row, dash}
use Rattle.sizes.specs.Header.{sizes_in}
use Rattle.placement.specs.Blocks.{Block, empty, holds}
use Rattle.placement.specs.Chunks.{Chunk}
use Rattle.placement.specs.Decode.{blocks_in}
use Rattle.placement.specs.declared.Order.{Order}
use Rattle.skiplist.specs.Image.{image, orders_in}
use Rattle.skiplist.specs.Questions.{first_no, between, enough, lowest, asks_image, asks_span}
use Rattle.skiplist.specs.Book.{cancel, lookup, seek, make_refusal, refusal, done}
use Rattle.table.specs.Calls.{check_number, order_of}
use Rattle.answers.specs.Asked.{piece, asked, sizes_asked, long_asked}
use Rattle.answers.specs.Output.{Said}
use Rattle.answers.specs.Put.{put_refusal, put_leaves}
use Rattle.answers.specs.Table.{Held}
use Rattle.answers.specs.declared.printer.Printer.{Printer}

-- "Each prints its number first, and on a refusal nothing more": what a call adds in that same line, and its further lines
unfoldable pub answer_lines : (number : ℕ) → (adds : List ℕ) → (more : List (List ℕ)) → List (List ℕ)
answer_lines zero ns ls = row 0 ns ∷ ls
answer_lines (suc n) ns ls = row (suc n) [] ∷ []

-- "A line of another form .. prints `?` and makes no call"
abbrev pub mark_lines : List (List ℕ)
mark_lines = (63 ∷ 10 ∷ []) ∷ []

-- "a table over 65,536 bytes whose sizes are allowed prints `?`"; "a failed make keeps the older table"
unfoldable pub make_number : (pieces : List ℕ) → ℕ
make_number p = make_refusal (asked p) (long_asked p)

unfoldable pub make_lines : (pieces : List ℕ) → List (List ℕ)
make_lines p = cond (ltb 65536 (long_asked p)) mark_lines (answer_lines (make_number p) [] [])

unfoldable pub make_leaves : (pieces table : List ℕ) → List ℕ
make_leaves p x = cond (ltb 65536 (long_asked p)) x (cond (eqb (make_number p) 0) (image (sizes_asked p) []) x)

-- the call, where it is made: its number, and the table that it leaves; the bytes behind that keep their values
pub record MakeDoes (p : List ℕ) (r : Option ℕ) (table table_now : Held) : Type 0 where
  pub number : r ≡ cond (ltb 65536 (long_asked p)) None (Some (make_number p))
  pub left : table_now.bytes ≡ make_leaves p table.bytes
  pub behind : table_now.behind ≡ drop (length table_now.bytes) (table.bytes ++ table.behind)
  pub whole : length table_now.bytes + length table_now.behind ≡ length table.bytes + length table.behind

-- "`show` adds total and displayed"
unfoldable pub show_lines : (table : List ℕ) → (key : ℕ) → List (List ℕ)
show_lines x k = answer_lines (refusal (lookup k) x) ((order_of k (orders_in x)).total ∷ (order_of k (orders_in x)).displayed ∷ []) []

-- "`span` the number found; then `span` prints its orders, one line each": key, total, displayed
unfoldable pub order_line : Order → List ℕ
order_line o = row o.key (o.total ∷ o.displayed ∷ [])

unfoldable pub span_lines : (table : List ℕ) → (lo hi room : ℕ) → List (List ℕ)
span_lines x lo hi room =
    answer_lines
    (first_no (asks_image x ++ asks_span (sizes_in x) lo hi room (orders_in x)))
    (length (between lo hi (orders_in x)) ∷ [])
    (map order_line (between lo hi (orders_in x)))

-- "`seek` the order (key, total, displayed)"
abbrev pub parts : Order → List ℕ
parts o = o.key ∷ o.total ∷ o.displayed ∷ []

unfoldable pub seek_lines : (table : List ℕ) → (lo hi least : ℕ) → List (List ℕ)
seek_lines x lo hi l = answer_lines (refusal (seek lo hi l) x) (parts (lowest (enough l (between lo hi (orders_in x))))) []

-- "for each block its number and either `-` or level, chunk number, first key, count, and the keys"
abbrev pub keys_of : List Order → List ℕ
keys_of ns = map (λ (o : Order). o.key) ns

unfoldable pub block_line : (number : ℕ) → Block Chunk → List ℕ
block_line i empty = dash i
block_line i (holds c) = row i (c.label.level ∷ c.label.number ∷ c.label.first ∷ length c.nodes ∷ keys_of c.nodes)

unfoldable pub block_lines : (number : ℕ) → List (Block Chunk) → List (List ℕ)
block_lines i [] = []
block_lines i (b ∷ bs) = block_line i b ∷ block_lines (suc i) bs

-- the blocks of an image
abbrev pub image_lines : (table : List ℕ) → List (List ℕ)
image_lines x = block_lines 0 (blocks_in (sizes_in x) x)

-- "`blocks` prints 0, then for each block ..", and 4 where there is no table
unfoldable pub blocks_lines : (table : List ℕ) → List (List ℕ)
blocks_lines x = answer_lines (check_number x) [] (image_lines x)

-- ONE LINE, with the numbers of its pieces: what it leaves of the table, and what it prints; `room` is the length of the output that a span is lent
unfoldable pub leaves : Option Call → (pieces table : List ℕ) → List ℕ
leaves (Some Make) p x = make_leaves p x
leaves (Some Put) p x = put_leaves (piece p 1) (piece p 2) (piece p 3) x
leaves (Some Cancel) p x = done (cancel (piece p 1)) x
leaves (Some Show) p x = x
leaves (Some Span) p x = x
leaves (Some Seek) p x = x
leaves (Some Blocks) p x = x
leaves None p x = x

unfoldable pub prints : Option Call → (pieces : List ℕ) → (room : ℕ) → (table : List ℕ) → List (List ℕ)
prints (Some Make) p room x = make_lines p
prints (Some Put) p room x = answer_lines (put_refusal (piece p 1) (piece p 2) (piece p 3) x) [] []
prints (Some Cancel) p room x = answer_lines (refusal (cancel (piece p 1)) x) [] []
prints (Some Show) p room x = show_lines x (piece p 1)
prints (Some Span) p room x = span_lines x (piece p 1) (piece p 2) room
prints (Some Seek) p room x = seek_lines x (piece p 1) (piece p 2) (piece p 3)
prints (Some Blocks) p room x = blocks_lines x
prints None p room x = mark_lines

-- the same of the program's table and printer; the bytes behind the table that it leaves keep their values
pub record Step (c : Option Call) (p : List ℕ) (room : ℕ) (table : Held) (to : Printer) (table_now : Held) (to_now : Printer) : Type 0 where
  pub left : table_now.bytes ≡ leaves c p table.bytes
  pub behind : table_now.behind ≡ drop (length table_now.bytes) (table.bytes ++ table.behind)
  pub whole : length table_now.bytes + length table_now.behind ≡ length table.bytes + length table.behind
  pub said : Said to (prints c p room table.bytes) to_now
