-- The least solution of a method's flow is its least well-typing, and where there is none it has no well-typing. Assumes nothing.
use Rattle.jinja.specs.Program.{Program}
use Rattle.jinja.specs.Rows.{Row}
use Rattle.jinja.specs.Order.{LeRow}
use Rattle.jinja.proofs.Order.{row_refl, row_trans}
use Rattle.type_rows.specs.Merging.{Merge, merged, clash}
use Rattle.type_rows.specs.MergeOrder.{LeMerge, le_merged, le_from_join}
use Rattle.type_rows.specs.Typings.{row_of, TypedBySolvingHolds}
use Rattle.type_rows.proofs.Solved.{solved_typing}
use Rattle.type_rows.proofs.Cut.{cut, cut_below, typing_solves}

-- rows keep the order, as no solution that comes from a well-typing has a clash
row_order : {P : Program} (x : Merge) {r : Row} → LeMerge P x (merged r) → LeRow P (row_of x) r
row_order clash l = elim l [ ]
row_order (merged s) (le_merged l) = l

pub typed_by_solving : TypedBySolvingHolds
typed_by_solving P M k w m few = record {
  least = λ T l. record {
    typing = solved_typing w M k m few l.solution;
    least = λ rows t pc i.
        let s = typing_solves w M k m few rows t in
        row_trans (row_order (T pc) (le_from_join w (l.solution.goods pc i) (s.goods pc i) (l.least (λ pc. cut M (rows pc)) s pc i))) (cut_below M (rows pc) (row_refl (t.rows_of pc i)));
  };
  none = λ u rows t. u (λ pc. cut M (rows pc)) (typing_solves w M k m few rows t);
}
