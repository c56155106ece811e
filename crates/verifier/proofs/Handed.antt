-- Rows that are handed out one after another in a workspace. Assumes nothing.
use Rattle.std.proofs.Common.{◌≡◌, ℕ, suc, ◌+◌, ◌*◌, ◌≤◌, List, ◌++◌, length, take, drop, sym, ap, ◌∙◌, arith}
use borrow.Rule.Slice.PartMut.{put_mid}
use Rattle.std.proofs.lemmas.List.{drop-drop}
use Rattle.std.proofs.lemmas.Slice.{take-put_mid, drop-put_mid}
use Rattle.jinja.specs.Rows.{Table}
use Rattle.type_rows.specs.Numbers.{row_numbers}
use Rattle.verifier.specs.LeastTables.{table_numbers}

-- the row i is written, where those before it are handed out and the others are as they were
module _ (rows : Table) (ws was y : List ℕ) (i : ℕ) (room : i * 33 + 33 ≤ length ws) (long : length y ≡ 33) where
  pub row_more : (k : ℕ) → take (i * 33) ws ≡ table_numbers rows i → y ≡ row_numbers (rows i) → take ((i + 1) * 33) (put_mid (i * 33) k ws y) ≡ table_numbers rows (i + 1)
  row_more k e f =
      let z : suc i ≡ i + 1 = omega arith in
      take-put_mid (i * 33) k ws y ((i + 1) * 33) (omega arith) (omega arith)
      ∙ ap (λ (l : List ℕ). l ++ y) e ∙ ap (λ (l : List ℕ). table_numbers rows i ++ l) f ∙ ap (table_numbers rows) z

  pub rest_same : (k : ℕ) → k ≡ 33 → drop (i * 33) ws ≡ drop (i * 33) was → drop ((i + 1) * 33) (put_mid (i * 33) k ws y) ≡ drop ((i + 1) * 33) was
  rest_same k q e =
      let z : i * 33 + 33 ≡ (i + 1) * 33 = omega arith in
      drop-put_mid (i * 33) k ws y ((i + 1) * 33) (omega arith) (omega arith) (omega arith)
      ∙ ap (λ (n : ℕ). drop n ws) (sym z) ∙ sym (drop-drop 33 (i * 33) ws) ∙ ap (drop 33) e ∙ drop-drop 33 (i * 33) was ∙ ap (λ (n : ℕ). drop n was) z
