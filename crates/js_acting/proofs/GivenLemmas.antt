-- The locals with which a body begins that has the parameters of a signal before its own.
use Rattle.std.proofs.Common.{◌≡◌, ◌∙◌, ap, sym, refl, ℕ, true, false, List, [], ◌∷◌, ◌++◌, map}
use Rattle.qml_syntax.specs.Tree.{Stmts}
use Rattle.qml_value.specs.declared.value.Value.{Value}
use Rattle.js_meaning.specs.Locals.{Units, Scope, alive, lets_of, vars_of_all, parameters, first_or_undefined, others}
use Rattle.js_locals.specs.declared.locals.Local.{Local}
use Rattle.js_locals.specs.declared.locals.Local.TheVariants as own
use Rattle.js_locals.specs.Laid.{Laid, name_of}
use Rattle.js_locals.specs.Scopes.{slot_onto, scopes_of, fresh_onto, fresh_slots, parameters_onto}
use Rattle.js_locals.proofs.ScopeLemmas.{fresh_is, parameters_are}
use Rattle.js_acting.specs.Given.{given_onto, behind_them}

given_are : (c : Laid) (ns : List Units) (vs : List Value) (ls : List Local) (x : Scope) (xs : List Scope)
    → scopes_of c ls ≡ x ∷ xs → scopes_of c (given_onto ns vs ls) ≡ parameters ns vs x ∷ xs
given_are c [] vs ls x xs e = e
given_are c (n ∷ ns) vs ls x xs e =
    given_are c ns (others vs) (own.Given n true (first_or_undefined vs) ∷ ls) ((n, alive true (first_or_undefined vs)) ∷ x) xs
    (ap (λ z. slot_onto (n, alive true (first_or_undefined vs)) z) e)

both_are : (ns ps : List Units) (vs : List Value) (x : Scope) → parameters ps (behind_them ns vs) (parameters ns vs x) ≡ parameters (ns ++ ps) vs x
both_are [] ps vs x = refl
both_are (n ∷ ns) ps vs x = both_are ns ps (others vs) ((n, alive true (first_or_undefined vs)) ∷ x)

pub begun_scopes : (c : Laid) (ns : List Units) (ps vars lets : List ℕ) (vs : List Value) (ss : Stmts) (ls : List Local)
    → fresh_slots c true vars [] ≡ vars_of_all ss [] → fresh_slots c false lets [] ≡ lets_of ss
    → ls ≡ fresh_onto false lets (own.Scope ∷ parameters_onto ps (behind_them ns vs) (given_onto ns vs (fresh_onto true vars (own.Scope ∷ []))))
    → scopes_of c ls ≡ lets_of ss ∷ parameters (ns ++ map (name_of c) ps) vs (vars_of_all ss []) ∷ []
begun_scopes c ns ps vars lets vs ss ls hv hl e =
    let l2 : List Local = fresh_onto true vars (own.Scope ∷ []) in
    let l3 : List Local = given_onto ns vs l2 in
    let l4 : List Local = parameters_onto ps (behind_them ns vs) l3 in
    let s2 : scopes_of c l2 ≡ vars_of_all ss [] ∷ [] = fresh_is c true vars (own.Scope ∷ []) [] [] refl ∙ ap (λ z. z ∷ []) hv in
    let s3 : scopes_of c l3 ≡ parameters ns vs (vars_of_all ss []) ∷ [] = given_are c ns vs l2 (vars_of_all ss []) [] s2 in
    let s4 : scopes_of c l4 ≡ parameters (map (name_of c) ps) (behind_them ns vs) (parameters ns vs (vars_of_all ss [])) ∷ [] = parameters_are c ps (behind_them ns vs) l3 (parameters ns vs (vars_of_all ss [])) [] s3 in
    let s5 : scopes_of c (own.Scope ∷ l4) ≡ [] ∷ parameters (ns ++ map (name_of c) ps) vs (vars_of_all ss []) ∷ [] =
    ap (λ z. [] ∷ z) (s4 ∙ ap (λ z. z ∷ []) (both_are ns (map (name_of c) ps) vs (vars_of_all ss []))) in
    ap (λ z. scopes_of c z) e ∙ fresh_is c false lets (own.Scope ∷ l4) [] (parameters (ns ++ map (name_of c) ps) vs (vars_of_all ss []) ∷ []) s5
    ∙ ap (λ z. z ∷ parameters (ns ++ map (name_of c) ps) vs (vars_of_all ss []) ∷ []) hl
