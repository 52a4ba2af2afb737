-- What is open has read what came.
use Rattle.std.proofs.Common.{◌≡◌, Bool, true, false, List, [], ◌∷◌, ◌++◌, codes}
use Rattle.qml_base.specs.declared.numbers.Place.{Place}
use Rattle.qml_syntax.specs.declared.token.TokenKind.TheVariants as k
use Rattle.qml_syntax.specs.declared.mark.Mark.TheVariants as m
use Rattle.qml_syntax.specs.declared.word.Word.TheVariants as w
use Rattle.qml_syntax.specs.declared.token.Token.{Token}
use Rattle.qml_syntax.specs.Tree.{Units}
use Rattle.qml_syntax.specs.Ends.{One, Sees}
use Rattle.js_machine.specs.Machine.{a_statement, a_body}
use Rattle.js_machine.proofs.Exact.{Ran}
use Rattle.qml_syntax.specs.Tree.{Names, Import, TypeName, Kind, kind_name, no_pars, Function, Object, Member, Value}
use Rattle.qml_syntax.specs.declared.contextual.Adjective.{Adjective}
use Rattle.qml_syntax.specs.declared.contextual.Version.{Version}
use Rattle.qml_syntax.specs.Words.{is_id, is_type_path, is_id_path, is_alias, adjective_of, at_most_two, Tail, before_as, tail_of_version}
use Rattle.qml_syntax.specs.ReadsDocument.{ReadsDots, ReadsType, ReadsKind, ReadsVersion, ReadsAdjective, ReadsParKind, ReadsPars, ReadsSemi, ReadsSignalPars, ReadsObject, ReadsMember, m_property, m_given, ReadsValue, ReadsPragma}
use Rattle.qml_machine.specs.Open.{MarkedMember, Par, pars_onto, SignalPar, Holder, at_root, as_child, as_value, in_objects, Inside, in_object, in_group, Target, of_path, of_property, Home, in_members, in_script, Head, head, Kinded, of_declared, of_signal_par, of_par, of_result, Source, of_module, of_text, member_of, inside_of, grown, Reading, imports, at_import, module_named, module_dotted, sourced, at_qualifier, qualified, at_object, object_named, object_dotted, typed, rooted, members, done, path, path_dotted, at_id, id_named, at_property, at_kind, kind_named, kind_dotted, at_element, element_named, kinded, property_named, alias_named, at_target, target, target_dotted, signal_named, signal_opened, signal_par_named, signal_closed, at_function, function_named, function_opened, at_par, par_named, function_closed, body, value, objects, script_begun, at_pragma, at_library, pragma_read, functions}
use Rattle.qml_machine.specs.DocumentMachine.{Entry, a_document, a_script}
use Rattle.qml_machine.proofs.Backs.{OpenDots, OpenImports, OpenFunctions, OpenMembers, om_more, OpenObjects, OpenPars, OpenSignalPars}

-- what is open reads the first tokens up to the second
mutual
  pub data LeftHolder (y : Entry) : Holder → List Token → List Token → Type 0 where
    lh_root : {back : List Import} {s rest : List Token} → y ≡ a_document → OpenImports back s rest → LeftHolder y (at_root back) s rest
    lh_child : {i : Inside} {s rest : List Token} → LeftInside y i s rest → LeftHolder y (as_child i) s rest
    lh_value : {g : Target} {s rest : List Token} → LeftTarget y g s rest → LeftHolder y (as_value g) s rest
    lh_objects : {g : Target} {p : Place} {back : List Object} {s a b rest : List Token} → LeftTarget y g s a → One (k.Mark m.LeftBracket) p a b → OpenObjects back b rest → LeftHolder y (in_objects g p back) s rest

  pub data LeftInside (y : Entry) : Inside → List Token → List Token → Type 0 where
    li_object : {h : Holder} {x : TypeName} {back : List MarkedMember} {s a b c rest : List Token} → LeftHolder y h s a → ReadsType x a b → Sees (k.Mark m.LeftBrace) b c → OpenMembers back c rest → LeftInside y (in_object h x back) s rest
    li_group : {i : Inside} {n : Units} {p : Place} {ns : Names} {back : List MarkedMember} {s a b c d rest : List Token} → LeftInside y i s a → One (k.Name n) p a b → ReadsDots ns b c → is_type_path n ns ≡ false → Sees (k.Mark m.LeftBrace) c d → OpenMembers back d rest → LeftInside y (in_group i n p ns back) s rest

  pub data LeftTarget (y : Entry) : Target → List Token → List Token → Type 0 where
    lt_path : {i : Inside} {n : Units} {p : Place} {ns : Names} {s a b c rest : List Token} → LeftInside y i s a → One (k.Name n) p a b → ReadsDots ns b c → is_id_path n ns ≡ false → Sees (k.Mark m.Colon) c rest → LeftTarget y (of_path i n p ns) s rest
    lt_property : {i : Inside} {p r : Place} {d : Adjective} {q : Kind} {n : Units} {s a b c e rest : List Token} → LeftInside y i s a → ReadsAdjective d p a b → ReadsKind q b c → is_alias d q ≡ false → One (k.Name n) r c e → Sees (k.Mark m.Colon) e rest → LeftTarget y (of_property i p d q n r) s rest

pub data LeftHome (y : Entry) : Home → List Token → List Token → Type 0 where
  lo_members : {i : Inside} {s rest : List Token} → LeftInside y i s rest → LeftHome y (in_members i) s rest
  lo_script : {b : Bool} {fs : List Function} {s a rest : List Token} → y ≡ a_script → ReadsPragma b s a → OpenFunctions fs a rest → LeftHome y (in_script b fs) s rest

pub data LeftHead (y : Entry) : Head → List Token → List Token → Type 0 where
  ld_head : {home : Home} {p r : Place} {n : Units} {s a b rest : List Token} → LeftHome y home s a → One (k.Word w.Function) p a b → One (k.Name n) r b rest → LeftHead y (head home p n r) s rest

-- up to behind `(` of the parameters, and up to behind their `)`
pub data LeftOpened (y : Entry) : Head → List Par → List Token → List Token → Type 0 where
  le_opened : {h : Head} {back : List Par} {s a b rest : List Token} → LeftHead y h s a → Sees (k.Mark m.LeftParen) a b → OpenPars back b rest → LeftOpened y h back s rest

pub data LeftClosed (y : Entry) : Head → List Par → List Token → List Token → Type 0 where
  lc_closed : {h : Head} {back : List Par} {s a b c rest : List Token} → LeftHead y h s a → Sees (k.Mark m.LeftParen) a b → ReadsPars (pars_onto back no_pars) b c → Sees (k.Mark m.RightParen) c rest → LeftClosed y h back s rest

pub data LeftSignal (y : Entry) : Inside → Place → Units → Place → List Token → List Token → Type 0 where
  lg_signal : {i : Inside} {p r : Place} {n : Units} {s a b rest : List Token} → LeftInside y i s a → One (k.Name (codes "signal")) p a b → One (k.Name n) r b rest → LeftSignal y i p n r s rest

pub data LeftKinded (y : Entry) : Kinded → List Token → List Token → Type 0 where
  lk_declared : {i : Inside} {p : Place} {d : Adjective} {s a rest : List Token} → LeftInside y i s a → ReadsAdjective d p a rest → LeftKinded y (of_declared i p d) s rest
  lk_signal : {i : Inside} {p r : Place} {n : Units} {back : List SignalPar} {s a b rest : List Token} → LeftSignal y i p n r s a → Sees (k.Mark m.LeftParen) a b → OpenSignalPars back b rest → LeftKinded y (of_signal_par i p n r back) s rest
  lk_par : {h : Head} {back : List Par} {n : Units} {s a b rest : List Token} → LeftOpened y h back s a → Sees (k.Name n) a b → Sees (k.Mark m.Colon) b rest → LeftKinded y (of_par h back n) s rest
  lk_result : {h : Head} {back : List Par} {s a rest : List Token} → LeftClosed y h back s a → Sees (k.Mark m.Colon) a rest → LeftKinded y (of_result h back) s rest

pub data LeftModule (y : Entry) : List Import → Units → Place → List Units → List Token → List Token → Type 0 where
  lm_module : {is : List Import} {n : Units} {p : Place} {back : List Units} {s a b c rest : List Token} → y ≡ a_document → OpenImports is s a → Sees (k.Word w.Import) a b → One (k.Name n) p b c → OpenDots back c rest → LeftModule y is n p back s rest

pub data LeftSource (y : Entry) : List Import → Source → List Token → List Token → Type 0 where
  ls_module : {is : List Import} {n : Units} {p : Place} {ns : Names} {v : Version} {s a b c d rest : List Token} → y ≡ a_document → OpenImports is s a → Sees (k.Word w.Import) a b → One (k.Name n) p b c → ReadsDots ns c d → ReadsVersion v d rest → LeftSource y is (of_module n p ns v) s rest
  ls_text : {is : List Import} {n : Units} {p : Place} {s a b rest : List Token} → y ≡ a_document → OpenImports is s a → Sees (k.Word w.Import) a b → One (k.Text n) p b rest → LeftSource y is (of_text n p) s rest

abbrev pub tail_of_source : Source → Tail
tail_of_source (of_module n p ns v) = tail_of_version v
tail_of_source (of_text n p) = before_as

-- an alias up to behind its `:`
pub data LeftAlias (y : Entry) : Inside → Place → Bool → Units → Place → List Token → List Token → Type 0 where
  la_alias : {i : Inside} {p r : Place} {d : Bool} {n : Units} {s a b c rest : List Token} → LeftInside y i s a → ReadsAdjective (adjective_of d) p a b → Sees (k.Name (codes "alias")) b c → One (k.Name n) r c rest → LeftAlias y i p d n r s rest

-- a list without a comma behind the latest
abbrev pub SignalParsTo : List SignalPar → List Token → List Token → Type 0
SignalParsTo [] b rest = ⊥
SignalParsTo (x ∷ back) b rest = (c : List Token) × (d : List Token) × OpenSignalPars back b c × ReadsKind x.0 c d × Sees (k.Name x.1) d rest

abbrev pub ObjectsTo : List Object → List Token → List Token → Type 0
ObjectsTo [] b rest = ⊥
ObjectsTo (x ∷ back) b rest = (c : List Token) × OpenObjects back b c × ReadsObject x c rest

-- a kind that is names
abbrev pub is_named : Kind → Bool
is_named (kind_name n p ns) = true
is_named _ = false

abbrev pub ReadingReads : Entry → Reading → List Token → List Token → Type 0
ReadingReads y (imports is) s rest = (y ≡ a_document) × OpenImports is s rest
ReadingReads y (at_import is) s rest = (a : List Token) × (y ≡ a_document) × OpenImports is s a × Sees (k.Word w.Import) a rest
ReadingReads y (module_named is n p back) s rest = LeftModule y is n p back s rest
ReadingReads y (module_dotted is n p back) s rest = (a : List Token) × LeftModule y is n p back s a × Sees (k.Mark m.Dot) a rest
ReadingReads y (sourced is x) s rest = LeftSource y is x s rest × (tail_of_source x ≡ before_as)
ReadingReads y (at_qualifier is x) s rest = (a : List Token) × LeftSource y is x s a × Sees (k.Name (codes "as")) a rest
ReadingReads y (qualified is x n) s rest = (a : List Token) × (b : List Token) × LeftSource y is x s a × Sees (k.Name (codes "as")) a b × Sees (k.Name n) b rest
ReadingReads y (at_object h) s rest = LeftHolder y h s rest
ReadingReads y (object_named h n p) s rest = (a : List Token) × LeftHolder y h s a × One (k.Name n) p a rest
ReadingReads y (object_dotted h n p) s rest = (a : List Token) × (b : List Token) × LeftHolder y h s a × One (k.Name n) p a b × Sees (k.Mark m.Dot) b rest
ReadingReads y (typed h x) s rest = (a : List Token) × LeftHolder y h s a × ReadsType x a rest
ReadingReads y (rooted is o) s rest = (a : List Token) × (y ≡ a_document) × OpenImports is s a × ReadsObject o a rest
ReadingReads y (members i) s rest = LeftInside y i s rest
ReadingReads y (done i x) s rest = (a : List Token) × LeftInside y i s a × ReadsMember x a rest
ReadingReads y (path i n p back) s rest = (a : List Token) × (b : List Token) × LeftInside y i s a × One (k.Name n) p a b × OpenDots back b rest
ReadingReads y (path_dotted i n p back) s rest = (a : List Token) × (b : List Token) × (c : List Token) × LeftInside y i s a × One (k.Name n) p a b × OpenDots back b c × Sees (k.Mark m.Dot) c rest
ReadingReads y (at_id i p) s rest = (a : List Token) × (b : List Token) × LeftInside y i s a × One (k.Name (codes "id")) p a b × Sees (k.Mark m.Colon) b rest
ReadingReads y (id_named i p n r) s rest = (a : List Token) × (b : List Token) × (c : List Token) × LeftInside y i s a × One (k.Name (codes "id")) p a b × Sees (k.Mark m.Colon) b c × One (k.Name n) r c rest × (is_id n ≡ true)
ReadingReads y (at_property i p d) s rest = (a : List Token) × LeftInside y i s a × ((b : List Token) → Sees (k.Name (codes "property")) rest b → ReadsAdjective d p a b)
ReadingReads y (at_kind c) s rest = LeftKinded y c s rest
ReadingReads y (kind_named c n p back) s rest = (a : List Token) × (b : List Token) × LeftKinded y c s a × One (k.Name n) p a b × OpenDots back b rest
ReadingReads y (kind_dotted c n p back) s rest = (a : List Token) × (b : List Token) × (d : List Token) × LeftKinded y c s a × One (k.Name n) p a b × OpenDots back b d × Sees (k.Mark m.Dot) d rest
ReadingReads y (at_element c) s rest = (a : List Token) × (b : List Token) × LeftKinded y c s a × Sees (k.Name (codes "list")) a b × Sees (k.Mark m.Less) b rest
ReadingReads y (element_named c n p) s rest = (a : List Token) × (b : List Token) × (d : List Token) × LeftKinded y c s a × Sees (k.Name (codes "list")) a b × Sees (k.Mark m.Less) b d × One (k.Name n) p d rest
ReadingReads y (kinded c q) s rest = (a : List Token) × LeftKinded y c s a × ReadsKind q a rest × (is_named q ≡ false)
ReadingReads y (property_named i p d q n r) s rest = (a : List Token) × (b : List Token) × (c : List Token) × LeftInside y i s a × ReadsAdjective d p a b × ReadsKind q b c × (is_alias d q ≡ false) × One (k.Name n) r c rest
ReadingReads y (alias_named i p d n r) s rest = LeftAlias y i p d n r s rest
ReadingReads y (at_target i p d n r) s rest = (a : List Token) × LeftAlias y i p d n r s a × Sees (k.Mark m.Colon) a rest
ReadingReads y (target i p d n r x z back) s rest = (a : List Token) × (b : List Token) × (c : List Token) × LeftAlias y i p d n r s a × Sees (k.Mark m.Colon) a b × One (k.Name x) z b c × OpenDots back c rest × (at_most_two back ≡ true)
ReadingReads y (target_dotted i p d n r x z back) s rest = (a : List Token) × (b : List Token) × (c : List Token) × (e : List Token) × LeftAlias y i p d n r s a × Sees (k.Mark m.Colon) a b × One (k.Name x) z b c × OpenDots back c e × (at_most_two ([] ∷ back) ≡ true) × Sees (k.Mark m.Dot) e rest
ReadingReads y (signal_named i p n r) s rest = LeftSignal y i p n r s rest
ReadingReads y (signal_opened i p n r) s rest = (a : List Token) × LeftSignal y i p n r s a × Sees (k.Mark m.LeftParen) a rest
ReadingReads y (signal_par_named i p n r back) s rest = (a : List Token) × (b : List Token) × LeftSignal y i p n r s a × Sees (k.Mark m.LeftParen) a b × SignalParsTo back b rest
ReadingReads y (signal_closed i p n r ps) s rest = (a : List Token) × (b : List Token) × (c : List Token) × LeftSignal y i p n r s a × Sees (k.Mark m.LeftParen) a b × ReadsSignalPars ps b c × Sees (k.Mark m.RightParen) c rest
ReadingReads y (at_function home p) s rest = (a : List Token) × LeftHome y home s a × One (k.Word w.Function) p a rest
ReadingReads y (function_named h) s rest = LeftHead y h s rest
ReadingReads y (function_opened h) s rest = LeftOpened y h [] s rest
ReadingReads y (at_par h back) s rest = LeftOpened y h back s rest
ReadingReads y (par_named h back n) s rest = (a : List Token) × LeftOpened y h back s a × Sees (k.Name n) a rest
ReadingReads y (function_closed h back) s rest = LeftClosed y h back s rest
ReadingReads y (body h back q x) s rest = (a : List Token) × (b : List Token) × (front : List Token) × LeftClosed y h back s a × ReadsParKind q a b × Sees (k.Mark m.LeftBrace) b (front ++ rest) × Ran a_body front x
ReadingReads y (value g x) s rest = (front : List Token) × LeftTarget y g s (front ++ rest) × Ran a_statement front x
ReadingReads y (objects g p back) s rest = (a : List Token) × (b : List Token) × LeftTarget y g s a × One (k.Mark m.LeftBracket) p a b × ObjectsTo back b rest
ReadingReads y script_begun s rest = (y ≡ a_script) × (s ≡ rest)
ReadingReads y at_pragma s rest = (y ≡ a_script) × Sees (k.Mark m.Dot) s rest
ReadingReads y at_library s rest = (a : List Token) × (y ≡ a_script) × Sees (k.Mark m.Dot) s a × Sees (k.Name (codes "pragma")) a rest
ReadingReads y pragma_read s rest = (a : List Token) × (b : List Token) × (y ≡ a_script) × Sees (k.Mark m.Dot) s a × Sees (k.Name (codes "pragma")) a b × Sees (k.Name (codes "library")) b rest
ReadingReads y (functions b fs) s rest = LeftHome y (in_script b fs) s rest

-- ---- what has been read grows

pub grown_reads : (y : Entry) {i : Inside} {x : Member} {b : Bool} {s a c rest : List Token} → LeftInside y i s a → ReadsMember x a c → ReadsSemi b c rest → LeftInside y (grown i x b) s rest
grown_reads y (li_object h t see o) r z = li_object h t see (om_more o r z)
grown_reads y (li_group l one ds n see o) r z = li_group l one ds n see (om_more o r z)

pub member_reads : (y : Entry) (g : Target) {v : Value} {s a rest : List Token} → LeftTarget y g s a → ReadsValue v a rest → (b : List Token) × LeftInside y (inside_of g) s b × ReadsMember (member_of g v) b rest
member_reads y (of_path i n p ns) (lt_path {a = b} l one ds h see) r = (b, l, m_given one ds h see r)
member_reads y (of_property i p d q n z) (lt_property {a = b} l ad kd h nm see) r = (b, l, m_property ad kd h nm see r)
