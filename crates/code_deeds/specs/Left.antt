-- What is done by what was found and by what is left to go through, where code stands at a place.
use Rattle.std.specs.Prelude.{◌≡◌, ℕ, Bool, false, List, [], ◌∷◌, ◌++◌, Option, None}
use Rattle.qml_base.specs.declared.numbers.Place.{Place}
use Rattle.qml_syntax.specs.Nodes.{Item, of_expr, of_step, of_stmt, of_link, of_choice, of_target, of_first, of_maybe, of_body, Table}
use Rattle.qml_syntax.specs.Opened.{IsListing}
use Rattle.qml_syntax.specs.Places.{part_at, places_of}
use Rattle.load_faults.specs.NamesInCode.{Standpoint, found_in_code, is_in_script}
use Rattle.load_faults.specs.Code.{Deed, an_effect, misbinds, Callee, called_name, called_of_name, called_member, called_value}
use Rattle.js_locals.specs.Laid.{laid, name_of}
use Rattle.code_deeds.specs.declared.around.Entry.{Entry}
use Rattle.code_deeds.specs.declared.around.Start.{Start}
use Rattle.code_deeds.specs.declared.doing.Doing.{Doing}
use Rattle.code_deeds.specs.declared.doing.Doing.TheVariants as doing
use Rattle.code_deeds.specs.declared.tasks.Callee as code
use Rattle.code_deeds.specs.declared.tasks.Callee.TheVariants as callee
use Rattle.code_deeds.specs.declared.tasks.Task.{Task}
use Rattle.code_deeds.specs.declared.tasks.Task.TheVariants as task
use Rattle.code_deeds.specs.Deeds as d
use Rattle.code_deeds.specs.Around.{standing, outer}
use Rattle.code_deeds.specs.Forms.{node_at, form_of, step_form_of}
use Rattle.code_deeds.specs.Own.{own_doings, step_doings, place_of_name}
use Rattle.code_deeds.specs.Tasks.{inside_tasks, step_inside}
use Rattle.code_deeds.specs.Scopes.{Enters, EntersStep}

abbrev pub place_of : Table → ℕ → Place
place_of t p = place_of_name (node_at t p)

-- ---- what was found: the deeds, once it is known what the names find

abbrev pub deeds_by : Standpoint → Table → Doing → List Deed
deeds_by h t (doing.Effect q) = an_effect q ∷ []
deeds_by h t (doing.CallsName p) =
    d.call_by_name (found_in_code h (name_of (laid t) p)) (name_of (laid t) p) (place_of t p)
deeds_by h t (doing.CallsOf p m) =
    d.call_by_member h (found_in_code h (name_of (laid t) p)) (name_of (laid t) p) (name_of (laid t) m) (place_of t m)
deeds_by h t (doing.CallsMember m) = d.reads (name_of (laid t) m) (place_of t m)
deeds_by h t (doing.Misbinds q) = misbinds q ∷ []

abbrev pub deeds_told : Standpoint → Table → List Doing → List Deed
deeds_told h t [] = []
deeds_told h t (x ∷ xs) = deeds_by h t x ++ deeds_told h t xs

-- code stands so before it is gone through
pub record Fits (st : Start) (h : Standpoint) : Type 0 where
  pub locals : h.locals ≡ st.given.items
  pub around : h.around ≡ []
  pub inside : h.inside ≡ None
  pub pure : h.pure ≡ st.pure
  pub script : is_in_script h ≡ st.in_script

-- ---- what is left

abbrev pub callee_in : Table → code.Callee → Callee
callee_in t (callee.Name p) = called_name (name_of (laid t) p) (place_of t p)
callee_in t (callee.OfName p m) = called_of_name (name_of (laid t) p) (name_of (laid t) m) (place_of t m)
callee_in t (callee.Member m) = called_member (name_of (laid t) m) (place_of t m)
callee_in t callee.Value = called_value

abbrev pub item_deeds : Standpoint → Bool → Item → List Deed
item_deeds h right (of_expr e) = d.deeds h right e
item_deeds h right (of_stmt x) = d.deeds_of_stmt h x
item_deeds h right (of_link f o q e) = d.deeds h false e
item_deeds h right (of_choice f c e) = d.deeds h false c ++ d.deeds h false e
item_deeds h right (of_target f u g q) = d.writes h u q ++ d.deeds h false u
item_deeds h right (of_first i) = d.deeds_of_first h i
item_deeds h right (of_maybe e) = d.deeds_of_maybe h e
item_deeds h right (of_body ss) = d.deeds_of_stmts h ss
item_deeds h right _ = []

abbrev pub step_deeds : Standpoint → Option Place → Callee → Item → List Deed
step_deeds h b k (of_step i) = d.deeds_of_step h b k i
step_deeds h b k _ = []

abbrev pub deeds_left : Table → Standpoint → List Entry → List Task → List Deed
deeds_left t h es [] = []
deeds_left t h es (task.Part p right ∷ ts) =
    item_deeds (standing (laid t) h es) right (part_at t p) ++ deeds_left t h es ts
deeds_left t h es (task.Step p k b ∷ ts) =
    step_deeds (standing (laid t) h es) b (callee_in t k) (part_at t p) ++ deeds_left t h es ts
deeds_left t h es (task.Leave ∷ ts) = deeds_left t h (outer es) ts

-- what was found and what is left, at two moments
pub record Keeps (t : Table) (st : Start) (found new : List Doing) (es more : List Entry) (ts rest : List Task) : Type 0 where
  pub same : IsListing t → (h : Standpoint) → Fits st h →
      deeds_told h t new ++ deeds_left t h more rest ≡ deeds_told h t found ++ deeds_left t h es ts

-- ---- one part

pub record GoesInto (t : Table) (st : Start) (p : ℕ) (right : Bool) (found new : List Doing) (es more : List Entry) (ts rest : List Task) : Type 0 where
  pub between : List Task
  pub own : new ≡ found ++ own_doings t st es right p (form_of (node_at t p)) (places_of t p)
  pub entered : Enters t p (form_of (node_at t p)) es more ts between
  pub parts : rest ≡ inside_tasks t st more (form_of (node_at t p)) (places_of t p) ++ between

pub record GoesOver (t : Table) (st : Start) (p : ℕ) (k : code.Callee) (b : Option Place) (found new : List Doing) (es more : List Entry) (ts rest : List Task) : Type 0 where
  pub between : List Task
  pub own : new ≡ found ++ step_doings t st es k (step_form_of (node_at t p))
  pub entered : EntersStep t p b (step_form_of (node_at t p)) es more ts between
  pub parts : rest ≡ step_inside (step_form_of (node_at t p)) (places_of t p) ++ between
