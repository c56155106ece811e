-- One call more at the end of a history. Assumes nothing.
use Rattle.std.proofs.Common.{◌≡◌, ℕ, ◌+◌, ◌<◌, List, [], ◌∷◌, ◌++◌, map, length, get_or, take, set, refl, ap, ◌∙◌}
use Rattle.std.proofs.lemmas.List.{take_more, take_more_set, map_push}
use Rattle.jinja.specs.declared.answer.Reply.{Reply}
use Rattle.jinja.specs.Program.{Program}
use Rattle.jinja.specs.State.{State}
use Rattle.jinja.specs.Calls.{Call as Asked, perform}
use Rattle.jinja.specs.History.{after, replies}
use Rattle.machine.specs.declared.call.Call.{Call}
use Rattle.machine.specs.Asked.{asked, all_asked}

module _ (P : Program) where
  after_push : (cs : List Asked) (c : Asked) (s : State) → after P (cs ++ (c ∷ [])) s ≡ (perform P c (after P cs s)).1
  after_push [] c s = refl
  after_push (x ∷ cs) c s = after_push cs c (perform P x s).1

  replies_push : (cs : List Asked) (c : Asked) (s : State) → replies P (cs ++ (c ∷ [])) s ≡ replies P cs s ++ ((perform P c (after P cs s)).0 ∷ [])
  replies_push [] c s = refl
  replies_push (x ∷ cs) c s = ap (λ (rs : List Reply). (perform P x s).0 ∷ rs) (replies_push cs c (perform P x s).1)

  -- a loop's turn: the call at i is performed, and its reply written at i
  pub play_more : (cs : List Call) (d : Call) (i : ℕ) (s before next : State) (w : List Reply) (r : Reply) → i < length cs → i < length w → before ≡ after P (all_asked (take i cs)) s → take i w ≡ replies P (all_asked (take i cs)) s → (r, next) ≡ perform P (asked (get_or cs i d)) before → (next ≡ after P (all_asked (take (i + 1) cs)) s) × (take (i + 1) (set w i r) ≡ replies P (all_asked (take (i + 1) cs)) s)
  play_more cs d i s before next w r lc lw es er ep =
      let c = asked (get_or cs i d) in
      let a = all_asked (take i cs) in
      let more : all_asked (take (i + 1) cs) ≡ a ++ (c ∷ []) = ap (λ (xs : List Call). map asked xs) (take_more cs i d lc) ∙ map_push asked (take i cs) (get_or cs i d) in
      let pr : r ≡ (perform P c (after P a s)).0 = ap (λ (o : Reply × State). o.0) ep ∙ ap (λ (t : State). (perform P c t).0) es in
      let pn : next ≡ (perform P c (after P a s)).1 = ap (λ (o : Reply × State). o.1) ep ∙ ap (λ (t : State). (perform P c t).1) es in
      (rw (more, after_push a c s) pn, rw (take_more_set w i r lw, more, replies_push a c s, er, pr))
