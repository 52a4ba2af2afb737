-- Types in a map, and instances taken away.
use Rattle.std.proofs.Common.{◌≡◌, ◌∙◌, ap, sym, refl, cond, nat_eq, ℕ, ◌≢◌, ◌≤◌, ◌<◌, arith, not, Bool, true, false, List, [], ◌∷◌, ◌++◌, map, filter, Option, None, Some, if◌then◌else◌}
use Rattle.std.specs.declared.alloc.Global.{Global}
use Rattle.std.specs.declared.vec.Vec.{Vec}
use Rattle.std.proofs.lemmas.Bool.{eqb-true, false≢true}
use Rattle.std.specs.Map.{lookup}
use Rattle.qml_base.specs.declared.numbers.ObjNo.{ObjNo}
use Rattle.qml_types.specs.declared.kind.TypeRef.{TypeRef}
use Rattle.qml_scope.specs.declared.shape.Shape.{Shape}
use Rattle.qml_value.specs.Scrubbing.{is_among}
use Rattle.indexmap.specs.IndexMap.{insert_entry}
use Rattle.qml_scope.specs.Shapes.{types_among, told_pair, ToldUpTo, instances_but, instances_left, same_object}
use Rattle.std.specs.Result.{IsOk, OnOk}
use Rattle.std.specs.declared.result.Result.{Result}
use Rattle.std.specs.declared.result.Result.TheVariants.{Ok, Err}

abbrev Entries : Type 0
Entries = List (ObjNo × Vec TypeRef Global)

abbrev pub types_or : Option (Vec TypeRef Global) → List TypeRef
types_or None = []
types_or (Some v) = v.items

pub types_alike : (es : Entries) (o : ObjNo) → types_or (lookup (λ (k : ObjNo). nat_eq o.0 k.0) es) ≡ types_among (map told_pair es) o
types_alike [] o = refl
types_alike (e ∷ es) o = by_key (nat_eq o.0 e.0.0) (types_alike es o)
  where
    by_key : (b : Bool) → types_or (lookup (λ (k : ObjNo). nat_eq o.0 k.0) es) ≡ types_among (map told_pair es) o → types_or (cond b (Some e.1) (lookup (λ (k : ObjNo). nat_eq o.0 k.0) es)) ≡ (if b then e.1.items else types_among (map told_pair es) o)
    by_key true rest = refl
    by_key false rest = rest

cond_types : (b : Bool) (w : Option (Vec TypeRef Global)) (r : Option (Vec TypeRef Global)) → types_or (cond b w r) ≡ (if b then types_or w else types_or r)
cond_types true w r = refl
cond_types false w r = refl

pub types_updated : (es after : Entries) (o : ObjNo) (w : Option (Vec TypeRef Global)) → ((q : ObjNo) → lookup (λ (k : ObjNo). nat_eq q.0 k.0) after ≡ cond (nat_eq o.0 q.0) w (lookup (λ (k : ObjNo). nat_eq q.0 k.0) es)) → (p : ObjNo) → types_among (map told_pair after) p ≡ (if same_object o p then types_or w else types_among (map told_pair es) p)
types_updated es after o w updates p =
    sym (types_alike after p) ∙ ap types_or (updates p) ∙ cond_types (nat_eq o.0 p.0) w (lookup (λ (k : ObjNo). nat_eq p.0 k.0) es) ∙ ap (λ ts. if nat_eq o.0 p.0 then types_or w else ts) (types_alike es p)

pub instances_filter : (root : ObjNo) (ss : List Shape) → filter (λ (s : Shape). not (nat_eq s.root.0 root.0)) ss ≡ instances_but root ss
instances_filter root [] = refl
instances_filter root (s ∷ ss) = by_root (nat_eq s.root.0 root.0) refl (instances_filter root ss)
  where
    by_root : (b : Bool) → nat_eq s.root.0 root.0 ≡ b → filter (λ (x : Shape). not (nat_eq x.root.0 root.0)) ss ≡ instances_but root ss → filter (λ (x : Shape). not (nat_eq x.root.0 root.0)) (s ∷ ss) ≡ (if b then instances_but root ss else s ∷ instances_but root ss)
    by_root true is later = rw is later
    by_root false is later = rw is (ap (λ rest. s ∷ rest) later)

pub left_filter : (gone : List ObjNo) (ss : List Shape) → filter (λ (s : Shape). not (is_among gone s.root)) ss ≡ instances_left gone ss
left_filter gone [] = refl
left_filter gone (s ∷ ss) = by_root (is_among gone s.root) (left_filter gone ss)
  where
    by_root : (b : Bool) → filter (λ (x : Shape). not (is_among gone x.root)) ss ≡ instances_left gone ss → cond (not b) (s ∷ filter (λ (x : Shape). not (is_among gone x.root)) ss) (filter (λ (x : Shape). not (is_among gone x.root)) ss) ≡ (if b then instances_left gone ss else s ∷ instances_left gone ss)
    by_root true later = later
    by_root false later = ap (λ rest. s ∷ rest) later

pub on_ok_there : {X E P : Type 0} (r : Result X E) → IsOk r → OnOk r P → P
on_ok_there (Ok x) is p = p
on_ok_there (Err e) is p = absurd (false≢true is)

same_among : (gone : List ObjNo) (p q : ObjNo) → nat_eq p.0 q.0 ≡ true → is_among gone p ≡ is_among gone q
same_among gone p q k = let e : p.0 ≡ q.0 = eqb-true p.0 q.0 k in ap (λ (n : ℕ). is_among gone (record { 0 = n })) e

-- the types of one that is gone are none, those of another stay
pub types_left : (gone : List ObjNo) (es : Entries) (p : ObjNo) → types_among (map told_pair (filter (λ (e : ObjNo × Vec TypeRef Global). not (is_among gone e.0)) es)) p ≡ (if is_among gone p then [] else types_among (map told_pair es) p)
types_left gone [] p = nothing (is_among gone p)
  where
    nothing : (b : Bool) → Path (List TypeRef) [] (if b then [] else [])
    nothing true = refl
    nothing false = refl
types_left gone (e ∷ es) p = by_key (is_among gone e.0) refl (nat_eq p.0 e.0.0) refl (types_left gone es p)
  where
    kept : Bool → Entries
    kept b = cond (not b) (e ∷ filter (λ (e : ObjNo × Vec TypeRef Global). not (is_among gone e.0)) es) (filter (λ (e : ObjNo × Vec TypeRef Global). not (is_among gone e.0)) es)

    by_key : (b : Bool) → is_among gone e.0 ≡ b → (k : Bool) → nat_eq p.0 e.0.0 ≡ k → types_among (map told_pair (filter (λ (e : ObjNo × Vec TypeRef Global). not (is_among gone e.0)) es)) p ≡ (if is_among gone p then [] else types_among (map told_pair es) p) → types_among (map told_pair (kept b)) p ≡ (if is_among gone p then [] else types_among (map told_pair (e ∷ es)) p)
    by_key true g false k rest = rw k rest
    by_key true g true k rest = let same : is_among gone p ≡ true = same_among gone p e.0 k ∙ g in rest ∙ rw same refl
    by_key false g false k rest = rw k rest
    by_key false g true k rest = let same : is_among gone p ≡ false = same_among gone p e.0 k ∙ g in rw (k, same) refl

-- ---- types of an object above all others

same_number : ObjNo → ObjNo → Bool
same_number a b = nat_eq a.0 b.0

others : (m n : ℕ) → m ≢ n → nat_eq m n ≡ false
others m n ne = grind (arith)

pub told_last : (n : ℕ) (es : Entries) (o : ObjNo) (v : Vec TypeRef Global) → ToldUpTo n (map told_pair es) → n < o.0
    → map told_pair (insert_entry (λ (a : ObjNo) (b : ObjNo). nat_eq a.0 b.0) es o v) ≡ map told_pair es ++ (o, v.items) ∷ []
told_last n [] o v up above = refl
told_last n (e ∷ es) o v up above =
    let one = up.0 in
    rw (others o.0 e.0.0 (λ s. absurd (omega arith))) (ap (λ rest. told_pair e ∷ rest) (told_last n es o v up.1 above))

pub left_up_to : (n : ℕ) (f : ObjNo × Vec TypeRef Global → Bool) (es : Entries) → ToldUpTo n (map told_pair es) → ToldUpTo n (map told_pair (filter f es))
left_up_to n f [] up = tt
left_up_to n f (e ∷ es) up = by_test (f e) (left_up_to n f es up.1)
  where
    by_test : (b : Bool) → ToldUpTo n (map told_pair (filter f es)) → ToldUpTo n (map told_pair (cond b (e ∷ filter f es) (filter f es)))
    by_test true rest = (up.0, rest)
    by_test false rest = rest
