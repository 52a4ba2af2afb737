-- Which tokens a document and a script file read: those of the first list, up to the second.
use Rattle.std.specs.Prelude.{◌≡◌, ℕ, Bool, true, false, List, [], ◌∷◌, Option, Some, None, codes}
use Rattle.qml_base.specs.declared.numbers.Place.{Place}
use Rattle.qml_syntax.specs.declared.token.TokenKind.TheVariants as k
use Rattle.qml_syntax.specs.declared.mark.Mark.TheVariants as m
use Rattle.qml_syntax.specs.declared.word.Word.TheVariants as w
use Rattle.qml_syntax.specs.declared.token.Token.{Token}
use Rattle.qml_syntax.specs.Tree.{Units, Close, Stmt, Stmts}
use Rattle.qml_syntax.specs.Ends.{One, Sees}
use Rattle.qml_syntax.specs.Reads.{ReadsStmt, ReadsStmts}
use Rattle.qml_syntax.specs.Tree.{Names, Import, import_module, import_text, TypeName, own_type, type_of, Kind, kind_var, kind_name, kind_list, Pars, no_pars, a_par, Function, function, SignalPars, no_signal_pars, a_signal_par, Object, object, Members, no_members, a_member, Member, id, property, bare, alias, signal, method, given, group, child, Value, value_object, value_list, value_stmt, Objects, last_object, an_object, Document, document, Script, script}
use Rattle.qml_syntax.specs.declared.contextual.Adjective.{Adjective}
use Rattle.qml_syntax.specs.declared.contextual.Version.{Version}
use Rattle.qml_syntax.specs.declared.contextual.Adjective.TheVariants as adjective
use Rattle.qml_syntax.specs.declared.contextual.Version.TheVariants as version
use Rattle.qml_syntax.specs.Words.{is_type, is_id, is_type_path, is_id_path, may_be_bare, is_alias, adjective_of, whole, before_value, tail_of_qualifier, tail_of_version, tail_of_target, tail_of_signal, before_as, ReadsEnd, script_fits, at_most_two}

-- ---- names

pub data ReadsDots : Names → List Token → List Token → Type 0 where
  d_none : {rest : List Token} → ReadsDots [] rest rest
  d_more : {n : Units} {ns : Names} {a b c rest : List Token} → Sees (k.Mark m.Dot) a b → Sees (k.Name n) b c → ReadsDots ns c rest → ReadsDots (n ∷ ns) a rest

pub data ReadsType : TypeName → List Token → List Token → Type 0 where
  t_own : {n : Units} {p : Place} {a rest : List Token} → One (k.Name n) p a rest → is_type n ≡ true → ReadsType (own_type n p) a rest
  t_of : {q n : Units} {p : Place} {a b c rest : List Token} → One (k.Name q) p a b → Sees (k.Mark m.Dot) b c → Sees (k.Name n) c rest → is_type n ≡ true → ReadsType (type_of q p n) a rest

pub data ReadsKind : Kind → List Token → List Token → Type 0 where
  k_var : {a rest : List Token} → Sees (k.Word w.Var) a rest → ReadsKind kind_var a rest
  k_name : {n : Units} {p : Place} {ns : Names} {a b rest : List Token} → One (k.Name n) p a b → ReadsDots ns b rest → ReadsKind (kind_name n p ns) a rest
  k_list : {n : Units} {p : Place} {a b c d rest : List Token} → Sees (k.Name (codes "list")) a b → Sees (k.Mark m.Less) b c → One (k.Name n) p c d → Sees (k.Mark m.Greater) d rest → ReadsKind (kind_list n p) a rest

-- ---- imports

pub data ReadsVersion : Version → List Token → List Token → Type 0 where
  v_none : {rest : List Token} → ReadsVersion version.Absent rest rest
  v_version : {a rest : List Token} → Sees k.Version a rest → ReadsVersion version.Full a rest
  v_number : {n : ℕ} {a rest : List Token} → Sees (k.Number n) a rest → ReadsVersion (version.Number n) a rest

pub data ReadsQualifier : Option Units → List Token → List Token → Type 0 where
  q_none : {rest : List Token} → ReadsQualifier None rest rest
  q_some : {n : Units} {a b rest : List Token} → Sees (k.Name (codes "as")) a b → Sees (k.Name n) b rest → ReadsQualifier (Some n) a rest

pub data ReadsImport : Import → List Token → List Token → Type 0 where
  im_module : {n : Units} {p : Place} {ns : Names} {v : Version} {q : Option Units} {c : Close} {s1 s2 s3 s4 s5 s6 rest : List Token} → Sees (k.Word w.Import) s1 s2 → One (k.Name n) p s2 s3 → ReadsDots ns s3 s4 → ReadsVersion v s4 s5 → ReadsQualifier q s5 s6 → ReadsEnd (tail_of_qualifier (tail_of_version v) q) c s6 rest → ReadsImport (import_module n p ns v q c) s1 rest
  im_text : {n : Units} {p : Place} {q : Option Units} {c : Close} {s1 s2 s3 s4 rest : List Token} → Sees (k.Word w.Import) s1 s2 → One (k.Text n) p s2 s3 → ReadsQualifier q s3 s4 → script_fits n q ≡ true → ReadsEnd (tail_of_qualifier before_as q) c s4 rest → ReadsImport (import_text n p q c) s1 rest

pub data ReadsImports : List Import → List Token → List Token → Type 0 where
  im_none : {rest : List Token} → ReadsImports [] rest rest
  im_more : {i : Import} {is : List Import} {a b rest : List Token} → ReadsImport i a b → ReadsImports is b rest → ReadsImports (i ∷ is) a rest

-- ---- functions and signals

pub data ReadsParKind : Option Kind → List Token → List Token → Type 0 where
  pk_none : {rest : List Token} → ReadsParKind None rest rest
  pk_some : {q : Kind} {a b rest : List Token} → Sees (k.Mark m.Colon) a b → ReadsKind q b rest → ReadsParKind (Some q) a rest

pub data ReadsPars : Pars → List Token → List Token → Type 0 where
  p_none : {rest : List Token} → ReadsPars no_pars rest rest
  p_last : {n : Units} {q : Option Kind} {a b rest : List Token} → Sees (k.Name n) a b → ReadsParKind q b rest → ReadsPars (a_par n q no_pars) a rest
  p_more : {n n' : Units} {q q' : Option Kind} {ps : Pars} {a b c d rest : List Token} → Sees (k.Name n) a b → ReadsParKind q b c → Sees (k.Mark m.Comma) c d → ReadsPars (a_par n' q' ps) d rest → ReadsPars (a_par n q (a_par n' q' ps)) a rest

pub data ReadsFunction : Function → List Token → List Token → Type 0 where
  f_function : {p r : Place} {n : Units} {ps : Pars} {q : Option Kind} {ss : Stmts} {s1 s2 s3 s4 s5 s6 s7 s8 s9 rest : List Token} → One (k.Word w.Function) p s1 s2 → One (k.Name n) r s2 s3 → Sees (k.Mark m.LeftParen) s3 s4 → ReadsPars ps s4 s5 → Sees (k.Mark m.RightParen) s5 s6 → ReadsParKind q s6 s7 → Sees (k.Mark m.LeftBrace) s7 s8 → ReadsStmts false ss s8 s9 → Sees (k.Mark m.RightBrace) s9 rest → ReadsFunction (function p n r ps q ss) s1 rest

pub data ReadsSignalPars : SignalPars → List Token → List Token → Type 0 where
  g_none : {rest : List Token} → ReadsSignalPars no_signal_pars rest rest
  g_last : {q : Kind} {n : Units} {a b rest : List Token} → ReadsKind q a b → Sees (k.Name n) b rest → ReadsSignalPars (a_signal_par q n no_signal_pars) a rest
  g_more : {q q' : Kind} {n n' : Units} {ps : SignalPars} {a b c d rest : List Token} → ReadsKind q a b → Sees (k.Name n) b c → Sees (k.Mark m.Comma) c d → ReadsSignalPars (a_signal_par q' n' ps) d rest → ReadsSignalPars (a_signal_par q n (a_signal_par q' n' ps)) a rest

pub data ReadsBrackets : Option SignalPars → List Token → List Token → Type 0 where
  b_none : {rest : List Token} → ReadsBrackets None rest rest
  b_some : {ps : SignalPars} {a b c rest : List Token} → Sees (k.Mark m.LeftParen) a b → ReadsSignalPars ps b c → Sees (k.Mark m.RightParen) c rest → ReadsBrackets (Some ps) a rest

-- ---- objects

-- up to behind the word `property`
pub data ReadsAdjective : Adjective → Place → List Token → List Token → Type 0 where
  a_ordinary : {p : Place} {a rest : List Token} → One (k.Name (codes "property")) p a rest → ReadsAdjective adjective.Ordinary p a rest
  a_default : {p : Place} {a b rest : List Token} → One (k.Word w.Default) p a b → Sees (k.Name (codes "property")) b rest → ReadsAdjective adjective.Default p a rest
  a_readonly : {p : Place} {a b rest : List Token} → One (k.Name (codes "readonly")) p a b → Sees (k.Name (codes "property")) b rest → ReadsAdjective adjective.ReadOnly p a rest

-- the `;` that may stand behind a member
pub data ReadsSemi : Bool → List Token → List Token → Type 0 where
  no_semi : {rest : List Token} → ReadsSemi false rest rest
  a_semi : {a rest : List Token} → Sees (k.Mark m.Semicolon) a rest → ReadsSemi true a rest

mutual
  pub data ReadsObject : Object → List Token → List Token → Type 0 where
    o_object : {x : TypeName} {ms : Members} {a b c d rest : List Token} → ReadsType x a b → Sees (k.Mark m.LeftBrace) b c → ReadsMembers ms c d → Sees (k.Mark m.RightBrace) d rest → ReadsObject (object x ms) a rest

  pub data ReadsMembers : Members → List Token → List Token → Type 0 where
    ms_none : {rest : List Token} → ReadsMembers no_members rest rest
    ms_more : {x : Member} {s : Bool} {ms : Members} {a b c rest : List Token} → ReadsMember x a b → ReadsSemi s b c → ReadsMembers ms c rest → ReadsMembers (a_member x s ms) a rest

  pub data ReadsMember : Member → List Token → List Token → Type 0 where
    m_id : {p r : Place} {n : Units} {c : Close} {s1 s2 s3 s4 rest : List Token} → One (k.Name (codes "id")) p s1 s2 → Sees (k.Mark m.Colon) s2 s3 → One (k.Name n) r s3 s4 → is_id n ≡ true → ReadsEnd whole c s4 rest → ReadsMember (id p n r c) s1 rest
    m_property : {p r : Place} {d : Adjective} {q : Kind} {n : Units} {v : Value} {s1 s2 s3 s4 s5 rest : List Token} → ReadsAdjective d p s1 s2 → ReadsKind q s2 s3 → is_alias d q ≡ false → One (k.Name n) r s3 s4 → Sees (k.Mark m.Colon) s4 s5 → ReadsValue v s5 rest → ReadsMember (property p d q n r v) s1 rest
    m_bare : {p r : Place} {d : Adjective} {q : Kind} {n : Units} {c : Close} {s1 s2 s3 s4 rest : List Token} → ReadsAdjective d p s1 s2 → may_be_bare d ≡ true → ReadsKind q s2 s3 → is_alias d q ≡ false → One (k.Name n) r s3 s4 → ReadsEnd before_value c s4 rest → ReadsMember (bare p d q n r c) s1 rest
    m_alias : {p r z : Place} {d : Bool} {n t : Units} {ns : Names} {c : Close} {s1 s2 s3 s4 s5 s6 s7 rest : List Token} → ReadsAdjective (adjective_of d) p s1 s2 → Sees (k.Name (codes "alias")) s2 s3 → One (k.Name n) r s3 s4 → Sees (k.Mark m.Colon) s4 s5 → One (k.Name t) z s5 s6 → ReadsDots ns s6 s7 → at_most_two ns ≡ true → ReadsEnd (tail_of_target ns) c s7 rest → ReadsMember (alias p d n r t z ns c) s1 rest
    m_signal : {p r : Place} {n : Units} {ps : Option SignalPars} {c : Close} {s1 s2 s3 s4 rest : List Token} → One (k.Name (codes "signal")) p s1 s2 → One (k.Name n) r s2 s3 → ReadsBrackets ps s3 s4 → ReadsEnd (tail_of_signal ps) c s4 rest → ReadsMember (signal p n r ps c) s1 rest
    m_method : {f : Function} {a rest : List Token} → ReadsFunction f a rest → ReadsMember (method f) a rest
    m_given : {n : Units} {p : Place} {ns : Names} {v : Value} {a b c d rest : List Token} → One (k.Name n) p a b → ReadsDots ns b c → is_id_path n ns ≡ false → Sees (k.Mark m.Colon) c d → ReadsValue v d rest → ReadsMember (given n p ns v) a rest
    m_group : {n : Units} {p : Place} {ns : Names} {ms : Members} {a b c d f rest : List Token} → One (k.Name n) p a b → ReadsDots ns b c → is_type_path n ns ≡ false → Sees (k.Mark m.LeftBrace) c d → ReadsMembers ms d f → Sees (k.Mark m.RightBrace) f rest → ReadsMember (group n p ns ms) a rest
    m_child : {o : Object} {a rest : List Token} → ReadsObject o a rest → ReadsMember (child o) a rest

  pub data ReadsValue : Value → List Token → List Token → Type 0 where
    v_object : {o : Object} {a rest : List Token} → ReadsObject o a rest → ReadsValue (value_object o) a rest
    v_list : {p : Place} {os : Objects} {a b c rest : List Token} → One (k.Mark m.LeftBracket) p a b → ReadsObjects os b c → Sees (k.Mark m.RightBracket) c rest → ReadsValue (value_list p os) a rest
    v_stmt : {s : Stmt} {a rest : List Token} → ReadsStmt false s a rest → ReadsValue (value_stmt s) a rest

  pub data ReadsObjects : Objects → List Token → List Token → Type 0 where
    os_last : {o : Object} {a rest : List Token} → ReadsObject o a rest → ReadsObjects (last_object o) a rest
    os_more : {o : Object} {os : Objects} {a b c rest : List Token} → ReadsObject o a b → Sees (k.Mark m.Comma) b c → ReadsObjects os c rest → ReadsObjects (an_object o os) a rest

pub data ReadsDocument : Document → List Token → List Token → Type 0 where
  r_document : {is : List Import} {o : Object} {a b rest : List Token} → ReadsImports is a b → ReadsObject o b rest → ReadsDocument (document is o) a rest

-- ---- script files

-- `.pragma library` ends at a line end
abbrev pub AtLine : List Token → Type 0
AtLine [] = Unit {0}
AtLine (t ∷ rest) = t.after_line ≡ true

pub data ReadsPragma : Bool → List Token → List Token → Type 0 where
  no_pragma : {rest : List Token} → ReadsPragma false rest rest
  a_pragma : {a b c rest : List Token} → Sees (k.Mark m.Dot) a b → Sees (k.Name (codes "pragma")) b c → Sees (k.Name (codes "library")) c rest → AtLine rest → ReadsPragma true a rest

pub data ReadsFunctions : List Function → List Token → List Token → Type 0 where
  fs_none : {rest : List Token} → ReadsFunctions [] rest rest
  fs_more : {f : Function} {fs : List Function} {a b rest : List Token} → ReadsFunction f a b → ReadsFunctions fs b rest → ReadsFunctions (f ∷ fs) a rest

pub data ReadsScript : Script → List Token → List Token → Type 0 where
  r_script : {b : Bool} {fs : List Function} {a c rest : List Token} → ReadsPragma b a c → ReadsFunctions fs c rest → ReadsScript (script b fs) a rest
