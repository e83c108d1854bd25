-- Rows of any width w, by any coding of a row in w bytes: how long they are, one of them, and rows read back. Seeds, nodes of 12 or 16 bytes and blocks are such rows.
use Rattle.std.proofs.Common.{◌≡◌, ℕ, zero, suc, ◌+◌, ◌*◌, ◌<◌, ◌≤◌, ◌≢◌, List, [], ◌∷◌, ◌++◌, length, get_or, take, drop, sym, refl, ap, ◌∙◌, true≢false, append_assoc, add_comm, mul-zero, mul-suc, arith, length-append, length-drop, drop-drop, drop_at}
use Rattle.sizes.specs.Numbers.{rows, rows_in, Each}
use Rattle.sizes.proofs.Laws.Numbers.{Bytes, bytes_drop, take_more}

module _ {A : Type 0} (w : ℕ) (f : A → List ℕ) (long : (x : A) → length (f x) ≡ w) where
  pub length_rows : (xs : List A) → length (rows f xs) ≡ w * length xs
  unfolding rows
  length_rows [] = sym (mul-zero w)
  length_rows (x ∷ xs) = length-append (f x) (rows f xs) ∙ rw (long x, length_rows xs, mul-suc) (add_comm _ _)

  -- rows written and read back, where one row is
  pub rows_back : (g : List ℕ → A) (P : A → Type 0) → ((x : A) (r : List ℕ) → P x → g (f x ++ r) ≡ x) → (xs : List A) (r : List ℕ) → Each P xs → rows_in w g (length xs) (rows f xs ++ r) ≡ xs
  unfolding rows rows_in
  rows_back g P back [] r p = refl
  rows_back g P back (x ∷ xs) r p =
      let y = rows f xs ++ r in
      rw (append_assoc (f x) (rows f xs) r, back x y p.0, drop_at (f x) y w (long x), rows_back g P back xs r p.1)

module _ {A : Type 0} (w : ℕ) (g : List ℕ → A) where
  pub rows_count : (k : ℕ) (xs : List ℕ) → length (rows_in w g k xs) ≡ k
  unfolding rows_in
  rows_count zero xs = refl
  rows_count (suc k) xs = ap suc (rows_count k (drop w xs))

  pub rows_at : (k j : ℕ) (xs : List ℕ) (d : A) → j < k → get_or (rows_in w g k xs) j d ≡ g (drop (w * j) xs)
  unfolding rows_in
  rows_at zero j xs d h = absurd (omega arith)
  rows_at (suc k) zero xs d h = rw mul-zero
  rows_at (suc k) (suc j) xs d h = rows_at k j (drop w xs) d (omega arith) ∙ rw (drop-drop, mul-suc w j, add_comm (w * j) w)

  pub rows_some : (k : ℕ) (xs : List ℕ) → 0 < k → rows_in w g k xs ≢ []
  unfolding rows_in
  rows_some zero xs h e = omega arith
  rows_some (suc k) xs h e = true≢false cc

  -- rows read and written again, where one row is
  pub rows_again : (f : A → List ℕ) → ((xs : List ℕ) → w ≤ length xs → Bytes xs → f (g xs) ≡ take w xs)
      → (k : ℕ) (xs : List ℕ) → w * k ≤ length xs → Bytes xs → rows f (rows_in w g k xs) ≡ take (w * k) xs
  unfolding rows rows_in
  rows_again f again zero xs h b = rw mul-zero
  rows_again f again (suc k) xs h b =
      let e : w * suc k ≡ w + w * k = omega (arith, mul-suc w k) in
      rw (e, again xs (omega (arith, e)) b, rows_again f again k (drop w xs) (simp length-drop (omega (arith, e))) (bytes_drop w xs b)) (take_more w (w * k) xs)

  -- what is true of each row that is read
  pub each_read : (P : A → Type 0) → ((xs : List ℕ) → w ≤ length xs → Bytes xs → P (g xs)) → (k : ℕ) (xs : List ℕ) → w * k ≤ length xs → Bytes xs → Each P (rows_in w g k xs)
  unfolding rows_in
  each_read P one zero xs h b = tt
  each_read P one (suc k) xs h b =
      let e = mul-suc w k in
      (one xs (omega (arith, e)) b, each_read P one k (drop w xs) (simp length-drop (omega (arith, e))) (bytes_drop w xs b))
