-- A method is read piece by piece, and pushed when all of it has stood the tests.
use Rattle.std.proofs.Common.{◌+◌, [], ◌∷◌, ◌++◌, length, Ok, sym, refl, ap, ◌∙◌}
use Rattle.std.proofs.lemmas.Result.{err_from_is_err_and}
use Rattle.number.specs.Places.{file_of, place_of}
use Rattle.format.specs.Limits.{max_height}
use Rattle.format.specs.Rules.{count_code, count_handlers, program_code, program_handlers}
use Rattle.format.specs.Reading.{at_most}
use Rattle.format.specs.Parse.{params_at, result_at, extras_at, code_at, handlers_at}
use Rattle.tables.specs.declared.records.MethodRec.{MethodRec}
use Rattle.tables.specs.Spans.{part}
use Rattle.tables.specs.Views.{params_of, program_of}
use Rattle.tables.proofs.Spans.{length_part}
use Rattle.set.specs.Progress.{mine}
use Rattle.set.proofs.Extends.{program_kept}
use Rattle.set.proofs.Added.{names_mine, behind_as, behind_within, params_extend, view_as, mine_more, tallied_more, method_more}
use Rattle.set.proofs.Kept.{kept_classes, kept_fields, kept_handlers, kept_instrs, kept_methods, kept_params}
use Rattle.set.proofs.Ways.{moved, no_name, no_params, no_result, no_height, no_extras, no_code, no_handlers, one_more}
use Rattle.set.proofs.method.read_method.Goals as goal

pub returns-in_err-name : goal.returns-in_err-name
returns-in_err-name c =
    let t = c.args.t.now in
    let file = file_of c.args.c.now in
    let p = err_from_is_err_and c.from_residual.result c.from_residual.ensures.1 in
    rw (p.1, p.2) (record {
      tallied = tt;
      more = tt;
      went = record {
        file = c.in_err-name.ensures.file;
        gave = no_name file c.args.n (program_of t) c.args.s (mine c.args.first t) (place_of c.args.c.now) c.in_err-name.field-0.0 (names_mine file t c.args.first (place_of c.args.c.now) _ c.as_slice.ensures.items ∙ c.in_err-name.ensures.gave);
      };
    })

pub returns-in_err-params : goal.returns-in_err-params
returns-in_err-params c =
    let t = c.args.t.now in
    let file = file_of c.args.c.now in
    let a_name = names_mine file t c.args.first (place_of c.args.c.now) _ c.as_slice.ensures.items ∙ c.in_ok-name.ensures.gave in
    let f_name = c.in_ok-name.ensures.file in
    let p = err_from_is_err_and c.from_residual-in_err-params.result c.from_residual-in_err-params.ensures.1 in
    rw (p.1, p.2) (record {
      tallied = tt;
      more = tt;
      went = record {
        file = c.in_err-params.ensures.went.file ∙ f_name;
        gave = no_params file c.args.n (program_of t) c.args.s (mine c.args.first t) (place_of c.args.c.now) _ _ a_name c.in_err-params.field-0.0 (moved (λ x. params_at x c.args.n (place_of c.read_name.new.c)) f_name c.in_err-params.ensures.went.gave);
      };
    })

pub returns-in_err-result : goal.returns-in_err-result
returns-in_err-result c =
    let t = c.args.t.now in
    let file = file_of c.args.c.now in
    let a_name = names_mine file t c.args.first (place_of c.args.c.now) _ c.as_slice.ensures.items ∙ c.in_ok-name.ensures.gave in
    let f_name = c.in_ok-name.ensures.file in
    let a_params = moved (λ x. params_at x c.args.n (place_of c.read_name.new.c)) f_name c.in_ok-params.ensures.went.gave.0 in
    let f_params = c.in_ok-params.ensures.went.file ∙ f_name in
    let ps = part c.in_ok-params.params (params_of c.read_params.new.t) in
    let kept = program_kept t c.read_params.new.t (params_extend t c.read_params.new.t c.in_ok-params.params c.in_ok-params.ensures.rest c.in_ok-params.ensures.went.gave.1) in
    let p = err_from_is_err_and c.from_residual-in_err-result.result c.from_residual-in_err-result.ensures.1 in
    rw (p.1, p.2) (record {
      tallied = tt;
      more = tt;
      went = record {
        file = c.in_err-result.ensures.file ∙ f_params;
        gave = no_result file c.args.n (program_of t) c.args.s (mine c.args.first t) (place_of c.args.c.now) _ _ a_name _ _ a_params c.in_err-result.field-0.0 (moved (λ x. result_at x c.args.n (program_of t) c.args.s c.in_ok-name.name ps (place_of c.read_params.new.c)) f_params
            (sym (ap (λ P. result_at (file_of c.read_params.new.c) c.args.n P c.args.s c.in_ok-name.name ps (place_of c.read_params.new.c)) kept) ∙ c.in_err-result.ensures.gave));
      };
    })

pub returns-in_err-height : goal.returns-in_err-height
returns-in_err-height c =
    let t = c.args.t.now in
    let file = file_of c.args.c.now in
    let a_name = names_mine file t c.args.first (place_of c.args.c.now) _ c.as_slice.ensures.items ∙ c.in_ok-name.ensures.gave in
    let f_name = c.in_ok-name.ensures.file in
    let a_params = moved (λ x. params_at x c.args.n (place_of c.read_name.new.c)) f_name c.in_ok-params.ensures.went.gave.0 in
    let f_params = c.in_ok-params.ensures.went.file ∙ f_name in
    let ps = part c.in_ok-params.params (params_of c.read_params.new.t) in
    let kept = program_kept t c.read_params.new.t (params_extend t c.read_params.new.t c.in_ok-params.params c.in_ok-params.ensures.rest c.in_ok-params.ensures.went.gave.1) in
    let a_result = moved (λ x. result_at x c.args.n (program_of t) c.args.s c.in_ok-name.name ps (place_of c.read_params.new.c)) f_params
    (sym (ap (λ P. result_at (file_of c.read_params.new.c) c.args.n P c.args.s c.in_ok-name.name ps (place_of c.read_params.new.c)) kept) ∙ c.in_ok-result.ensures.gave) in
    let f_result = c.in_ok-result.ensures.file ∙ f_params in
    let p = err_from_is_err_and c.from_residual-in_err-height.result c.from_residual-in_err-height.ensures.1 in
    rw (p.1, p.2) (record {
      tallied = tt;
      more = tt;
      went = record {
        file = c.in_err-height.ensures.file ∙ f_result;
        gave = no_height file c.args.n (program_of t) c.args.s (mine c.args.first t) (place_of c.args.c.now) _ _ a_name _ _ a_params _ _ a_result c.in_err-height.field-0.0 (moved (λ x. at_most x max_height (place_of c.read_result.new.c)) f_result c.in_err-height.ensures.gave);
      };
    })

pub returns-in_err-extras : goal.returns-in_err-extras
returns-in_err-extras c =
    let t = c.args.t.now in
    let file = file_of c.args.c.now in
    let a_name = names_mine file t c.args.first (place_of c.args.c.now) _ c.as_slice.ensures.items ∙ c.in_ok-name.ensures.gave in
    let f_name = c.in_ok-name.ensures.file in
    let a_params = moved (λ x. params_at x c.args.n (place_of c.read_name.new.c)) f_name c.in_ok-params.ensures.went.gave.0 in
    let f_params = c.in_ok-params.ensures.went.file ∙ f_name in
    let ps = part c.in_ok-params.params (params_of c.read_params.new.t) in
    let kept = program_kept t c.read_params.new.t (params_extend t c.read_params.new.t c.in_ok-params.params c.in_ok-params.ensures.rest c.in_ok-params.ensures.went.gave.1) in
    let a_result = moved (λ x. result_at x c.args.n (program_of t) c.args.s c.in_ok-name.name ps (place_of c.read_params.new.c)) f_params
    (sym (ap (λ P. result_at (file_of c.read_params.new.c) c.args.n P c.args.s c.in_ok-name.name ps (place_of c.read_params.new.c)) kept) ∙ c.in_ok-result.ensures.gave) in
    let f_result = c.in_ok-result.ensures.file ∙ f_params in
    let a_height = moved (λ x. at_most x max_height (place_of c.read_result.new.c)) f_result c.in_ok-height.ensures.gave in
    let f_height = c.in_ok-height.ensures.file ∙ f_result in
    let p = err_from_is_err_and c.from_residual-in_err-extras.result c.from_residual-in_err-extras.ensures.1 in
    rw (p.1, p.2) (record {
      tallied = tt;
      more = tt;
      went = record {
        file = c.in_err-extras.ensures.took.file ∙ f_height;
        gave = no_extras file c.args.n (program_of t) c.args.s (mine c.args.first t) (place_of c.args.c.now) _ _ a_name _ _ a_params _ _ a_result _ _ a_height c.in_err-extras.field-0.0 (moved (λ x. extras_at x (length ps) (place_of c.at_most.new.c)) f_height
            (ap (λ k. extras_at (file_of c.at_most.new.c) k (place_of c.at_most.new.c)) (length_part c.in_ok-params.params (params_of c.read_params.new.t) (behind_within c.in_ok-params.ensures.went.gave.1)) ∙ c.in_err-extras.ensures.took.gave));
      };
    })

pub returns-in_err-code : goal.returns-in_err-code
returns-in_err-code c =
    let t = c.args.t.now in
    let file = file_of c.args.c.now in
    let a_name = names_mine file t c.args.first (place_of c.args.c.now) _ c.as_slice.ensures.items ∙ c.in_ok-name.ensures.gave in
    let f_name = c.in_ok-name.ensures.file in
    let a_params = moved (λ x. params_at x c.args.n (place_of c.read_name.new.c)) f_name c.in_ok-params.ensures.went.gave.0 in
    let f_params = c.in_ok-params.ensures.went.file ∙ f_name in
    let ps = part c.in_ok-params.params (params_of c.read_params.new.t) in
    let kept = program_kept t c.read_params.new.t (params_extend t c.read_params.new.t c.in_ok-params.params c.in_ok-params.ensures.rest c.in_ok-params.ensures.went.gave.1) in
    let a_result = moved (λ x. result_at x c.args.n (program_of t) c.args.s c.in_ok-name.name ps (place_of c.read_params.new.c)) f_params
    (sym (ap (λ P. result_at (file_of c.read_params.new.c) c.args.n P c.args.s c.in_ok-name.name ps (place_of c.read_params.new.c)) kept) ∙ c.in_ok-result.ensures.gave) in
    let f_result = c.in_ok-result.ensures.file ∙ f_params in
    let a_height = moved (λ x. at_most x max_height (place_of c.read_result.new.c)) f_result c.in_ok-height.ensures.gave in
    let f_height = c.in_ok-height.ensures.file ∙ f_result in
    let a_extras = moved (λ x. extras_at x (length ps) (place_of c.at_most.new.c)) f_height
    (ap (λ k. extras_at (file_of c.at_most.new.c) k (place_of c.at_most.new.c)) (length_part c.in_ok-params.params (params_of c.read_params.new.t) (behind_within c.in_ok-params.ensures.went.gave.1)) ∙ c.in_ok-extras.ensures.took.gave) in
    let f_extras = c.in_ok-extras.ensures.took.file ∙ f_height in
    let p = err_from_is_err_and c.from_residual-in_err-code.result c.from_residual-in_err-code.ensures.1 in
    rw (p.1, p.2) (record {
      tallied = tt;
      more = tt;
      went = record {
        file = c.in_err-code.ensures.went.file ∙ f_extras;
        gave = no_code file c.args.n (program_of t) c.args.s (mine c.args.first t) (place_of c.args.c.now) _ _ a_name _ _ a_params _ _ a_result _ _ a_height _ _ a_extras c.in_err-code.field-0.0 (moved (λ x. code_at x (program_code (program_of t) + count_code (mine c.args.first t)) (place_of c.read_more.new.c)) f_extras
            (sym (ap (λ k. code_at (file_of c.read_more.new.c) k (place_of c.read_more.new.c)) (ap length (kept_instrs c.in_ok-params.ensures.rest) ∙ c.requires.tallied.code)) ∙ c.in_err-code.ensures.went.gave));
      };
    })

pub returns-in_err-handlers : goal.returns-in_err-handlers
returns-in_err-handlers c =
    let t = c.args.t.now in
    let file = file_of c.args.c.now in
    let a_name = names_mine file t c.args.first (place_of c.args.c.now) _ c.as_slice.ensures.items ∙ c.in_ok-name.ensures.gave in
    let f_name = c.in_ok-name.ensures.file in
    let a_params = moved (λ x. params_at x c.args.n (place_of c.read_name.new.c)) f_name c.in_ok-params.ensures.went.gave.0 in
    let f_params = c.in_ok-params.ensures.went.file ∙ f_name in
    let ps = part c.in_ok-params.params (params_of c.read_params.new.t) in
    let kept = program_kept t c.read_params.new.t (params_extend t c.read_params.new.t c.in_ok-params.params c.in_ok-params.ensures.rest c.in_ok-params.ensures.went.gave.1) in
    let a_result = moved (λ x. result_at x c.args.n (program_of t) c.args.s c.in_ok-name.name ps (place_of c.read_params.new.c)) f_params
    (sym (ap (λ P. result_at (file_of c.read_params.new.c) c.args.n P c.args.s c.in_ok-name.name ps (place_of c.read_params.new.c)) kept) ∙ c.in_ok-result.ensures.gave) in
    let f_result = c.in_ok-result.ensures.file ∙ f_params in
    let a_height = moved (λ x. at_most x max_height (place_of c.read_result.new.c)) f_result c.in_ok-height.ensures.gave in
    let f_height = c.in_ok-height.ensures.file ∙ f_result in
    let a_extras = moved (λ x. extras_at x (length ps) (place_of c.at_most.new.c)) f_height
    (ap (λ k. extras_at (file_of c.at_most.new.c) k (place_of c.at_most.new.c)) (length_part c.in_ok-params.params (params_of c.read_params.new.t) (behind_within c.in_ok-params.ensures.went.gave.1)) ∙ c.in_ok-extras.ensures.took.gave) in
    let f_extras = c.in_ok-extras.ensures.took.file ∙ f_height in
    let a_code = moved (λ x. code_at x (program_code (program_of t) + count_code (mine c.args.first t)) (place_of c.read_more.new.c)) f_extras
    (sym (ap (λ k. code_at (file_of c.read_more.new.c) k (place_of c.read_more.new.c)) (ap length (kept_instrs c.in_ok-params.ensures.rest) ∙ c.requires.tallied.code)) ∙ c.in_ok-code.ensures.went.gave.0) in
    let f_code = c.in_ok-code.ensures.went.file ∙ f_extras in
    let p = err_from_is_err_and c.from_residual-in_err-handlers.result c.from_residual-in_err-handlers.ensures.1 in
    rw (p.1, p.2) (record {
      tallied = tt;
      more = tt;
      went = record {
        file = c.in_err-handlers.ensures.went.file ∙ f_code;
        gave = no_handlers file c.args.n (program_of t) c.args.s (mine c.args.first t) (place_of c.args.c.now) _ _ a_name _ _ a_params _ _ a_result _ _ a_height _ _ a_extras _ _ a_code c.in_err-handlers.field-0.0 (moved (λ x. handlers_at x (program_handlers (program_of t) + count_handlers (mine c.args.first t)) (place_of c.read_code.new.c)) f_code
            (sym (ap (λ k. handlers_at (file_of c.read_code.new.c) k (place_of c.read_code.new.c)) (ap length (kept_handlers c.in_ok-code.ensures.rest ∙ kept_handlers c.in_ok-params.ensures.rest) ∙ c.requires.tallied.handlers)) ∙ c.in_err-handlers.ensures.went.gave));
      };
    })

pub returns : goal.returns
returns c =
    let t = c.args.t.now in
    let file = file_of c.args.c.now in
    let a_name = names_mine file t c.args.first (place_of c.args.c.now) _ c.as_slice.ensures.items ∙ c.in_ok-name.ensures.gave in
    let f_name = c.in_ok-name.ensures.file in
    let a_params = moved (λ x. params_at x c.args.n (place_of c.read_name.new.c)) f_name c.in_ok-params.ensures.went.gave.0 in
    let f_params = c.in_ok-params.ensures.went.file ∙ f_name in
    let ps = part c.in_ok-params.params (params_of c.read_params.new.t) in
    let kept = program_kept t c.read_params.new.t (params_extend t c.read_params.new.t c.in_ok-params.params c.in_ok-params.ensures.rest c.in_ok-params.ensures.went.gave.1) in
    let a_result = moved (λ x. result_at x c.args.n (program_of t) c.args.s c.in_ok-name.name ps (place_of c.read_params.new.c)) f_params
    (sym (ap (λ P. result_at (file_of c.read_params.new.c) c.args.n P c.args.s c.in_ok-name.name ps (place_of c.read_params.new.c)) kept) ∙ c.in_ok-result.ensures.gave) in
    let f_result = c.in_ok-result.ensures.file ∙ f_params in
    let a_height = moved (λ x. at_most x max_height (place_of c.read_result.new.c)) f_result c.in_ok-height.ensures.gave in
    let f_height = c.in_ok-height.ensures.file ∙ f_result in
    let a_extras = moved (λ x. extras_at x (length ps) (place_of c.at_most.new.c)) f_height
    (ap (λ k. extras_at (file_of c.at_most.new.c) k (place_of c.at_most.new.c)) (length_part c.in_ok-params.params (params_of c.read_params.new.t) (behind_within c.in_ok-params.ensures.went.gave.1)) ∙ c.in_ok-extras.ensures.took.gave) in
    let f_extras = c.in_ok-extras.ensures.took.file ∙ f_height in
    let a_code = moved (λ x. code_at x (program_code (program_of t) + count_code (mine c.args.first t)) (place_of c.read_more.new.c)) f_extras
    (sym (ap (λ k. code_at (file_of c.read_more.new.c) k (place_of c.read_more.new.c)) (ap length (kept_instrs c.in_ok-params.ensures.rest) ∙ c.requires.tallied.code)) ∙ c.in_ok-code.ensures.went.gave.0) in
    let f_code = c.in_ok-code.ensures.went.file ∙ f_extras in
    let a_handlers = moved (λ x. handlers_at x (program_handlers (program_of t) + count_handlers (mine c.args.first t)) (place_of c.read_code.new.c)) f_code
    (sym (ap (λ k. handlers_at (file_of c.read_code.new.c) k (place_of c.read_code.new.c)) (ap length (kept_handlers c.in_ok-code.ensures.rest ∙ kept_handlers c.in_ok-params.ensures.rest) ∙ c.requires.tallied.handlers)) ∙ c.in_ok-handlers.ensures.went.gave.0) in
    let u = c.push_method.new.t in
    let o_params = c.in_ok-params.ensures.rest in
    let o_code = c.in_ok-code.ensures.rest in
    let o_handlers = c.in_ok-handlers.ensures.rest in
    let o_push = c.push_method.ensures.rest in
    let e_params = kept_params o_push ∙ (kept_params o_handlers ∙ kept_params o_code) in
    let e_code = kept_instrs o_push ∙ kept_instrs o_handlers in
    let classes = kept_classes o_push ∙ (kept_classes o_handlers ∙ (kept_classes o_code ∙ kept_classes o_params)) in
    let fields = kept_fields o_push ∙ (kept_fields o_handlers ∙ (kept_fields o_code ∙ kept_fields o_params)) in
    let m : MethodRec =
    record {
      name = c.in_ok-name.name;
      params = c.in_ok-params.params;
      result = c.in_ok-result.result;
      height = c.in_ok-height.height;
      extras = c.in_ok-extras.extras;
      code = c.in_ok-code.code;
      handlers = c.in_ok-handlers.handlers;
    } in
    let methods = c.push_method.ensures.methods ∙ ap (λ xs. xs ++ m ∷ []) (kept_methods o_handlers ∙ (kept_methods o_code ∙ kept_methods o_params)) in
    let b_params = behind_as refl e_params c.in_ok-params.ensures.went.gave.1 in
    let b_code = behind_as (sym (kept_instrs o_params)) e_code c.in_ok-code.ensures.went.gave.1 in
    let b_handlers = behind_as (sym (kept_handlers o_code ∙ kept_handlers o_params)) (kept_handlers o_push) c.in_ok-handlers.ensures.went.gave.1 in
    record {
      tallied = tallied_more t u m classes fields methods b_params b_code b_handlers c.args.first c.requires.tallied c.in_ok-params.ensures.most;
      more = method_more t u m classes fields methods b_params b_code b_handlers;
      went = record {
        file = c.in_ok-handlers.ensures.went.file ∙ f_code;
        gave = one_more file c.args.n (program_of t) c.args.s (mine c.args.first t) (place_of c.args.c.now) _ _ a_name _ _ a_params _ _ a_result _ _ a_height _ _ a_extras _ _ a_code _ _ a_handlers
            ∙ (ap (λ x. Ok (mine c.args.first t ++ x ∷ [], place_of c.read_handlers.new.c)) (sym (view_as e_params e_code (kept_handlers o_push) m))
            ∙ ap (λ xs. Ok (xs, place_of c.read_handlers.new.c)) (sym (mine_more t u m classes fields methods b_params b_code b_handlers c.args.first c.requires.tallied)));
      };
    }
