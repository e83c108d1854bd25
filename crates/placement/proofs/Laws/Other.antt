-- ANOTHER KIND OF CHUNKS keeps the promise by application alone, so a later version need only be lawful: labels are numbers in falling order, rows are bytes, the home is the label mod m.
-- And rows of another width, 16 bytes with one number, are read back.
use Rattle.std.proofs.Common.{◌≡◌, ℕ, suc, ◌*◌, ◌%◌, ◌^◌, ◌<◌, Bool, eqb, ltb, ◌≢◌, List, [], ◌++◌, length, refl, mod-lt, arith, ltb-false, ltb-true, le-ltb, lt-ltb, eq-eqb, eqb-true}
use Rattle.placement.specs.Blocks.{Block, holds, around}
use Rattle.sizes.specs.Numbers.{big, field, rows, rows_in, Each}
use Rattle.placement.specs.Kinds.{Kind, Keeps, with_chunk, without_label}
use Rattle.placement.proofs.Laws.Insertion.{insert_from}
use Rattle.placement.proofs.Laws.Removal.{removed_at}
use Rattle.placement.proofs.Laws.Kinds.{Lawful, put_in, take_out, kept_once}
use Rattle.sizes.proofs.Laws.Numbers.{length_big, field_big}
use Rattle.placement.proofs.Laws.Rows.{length_rows, rows_back}

record Piece : Type 0 where
  name : ℕ
  bytes : List ℕ

abbrev pieces : Kind Piece ℕ ℕ
pieces = record { label = λ c. c.name; rows = λ c. c.bytes; make = λ w ns. record { name = w; bytes = ns }; has = λ c w. eqb c.name w }

abbrev falling : Piece → Piece → Bool
falling a b = ltb b.name a.name

abbrev place : (m : ℕ) → Piece → ℕ
place m c = c.name % m

lawful : (m : ℕ) → 0 < m → Lawful pieces (place m) falling m
lawful m some = record {
  again = λ c. refl;
  labelled = λ w ns. refl;
  own = λ c. eq-eqb c.name c.name refl;
  only = λ c w e. eqb-true c.name w e;
  strict = λ c. le-ltb c.name c.name (omega arith);
  chain = λ c d e p q. lt-ltb e.name c.name (omega (arith, ltb-true d.name c.name p, ltb-true e.name d.name q));
  one = λ c d p q. omega (arith, ltb-false d.name c.name p, ltb-false c.name d.name q);
  alike = λ c d e. record { home_same = cc; left = λ x. cc; right = λ x. cc };
  inside = λ c. mod-lt c.name some;
}

module _ (m : ℕ) (some : 0 < m) (bs : List (Block Piece)) (F : ℕ → List ℕ) (n : ℕ) where
  piece_in : (c : Piece) → Keeps pieces (place m) falling m bs F n → F c.name ≡ [] → c.bytes ≢ [] → n < m
      → Keeps pieces (place m) falling m (insert_from falling m (c.name % m) m c bs) (with_chunk pieces c F) (suc n)
  piece_in = put_in (lawful m some)

  piece_out : (c : Piece) (i : ℕ) → Keeps pieces (place m) falling m bs F (suc n) → around m bs i ≡ holds c
      → Keeps pieces (place m) falling m (removed_at (place m) m i bs) (without_label pieces c F) n
  piece_out = take_out (lawful m some)

  pieces_once : (cs : List (Block Piece)) (k : ℕ) → Keeps pieces (place m) falling m bs F n → Keeps pieces (place m) falling m cs F k → bs ≡ cs
  pieces_once cs k = kept_once (lawful m some) (λ w. refl)

wide_long : (xs : List ℕ) → length (rows (big 16) xs) ≡ 16 * length xs
wide_long = length_rows 16 (big 16) (length_big 16)

wide_back : (xs r : List ℕ) → Each (λ (x : ℕ). x < 256 ^ 16) xs → rows_in 16 (field 0 16) (length xs) (rows (big 16) xs ++ r) ≡ xs
wide_back = rows_back 16 (big 16) (length_big 16) (field 0 16) (λ (x : ℕ). x < 256 ^ 16) (field_big 16)
