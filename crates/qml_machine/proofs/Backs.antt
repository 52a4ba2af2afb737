-- Lists that are read so far, the latest in front, and how they go on.
use Rattle.std.proofs.Common.{Bool, List, [], ◌∷◌, Option}
use Rattle.qml_syntax.specs.declared.token.TokenKind.TheVariants as k
use Rattle.qml_syntax.specs.declared.mark.Mark.TheVariants as m
use Rattle.qml_syntax.specs.declared.token.Token.{Token}
use Rattle.qml_syntax.specs.Tree.{Units}
use Rattle.qml_syntax.specs.Ends.{Sees}
use Rattle.qml_syntax.specs.Tree.{Names, Import, Kind, Pars, a_par, Function, SignalPars, a_signal_par, Object, Members, Member, Objects}
use Rattle.qml_syntax.specs.ReadsDocument.{ReadsDots, d_more, ReadsKind, ReadsImport, ReadsImports, im_more, ReadsParKind, ReadsPars, p_more, ReadsFunction, ReadsSignalPars, g_more, ReadsSemi, ReadsObject, ReadsMembers, ms_more, ReadsMember, ReadsObjects, os_more, ReadsFunctions, fs_more}
use Rattle.qml_machine.specs.Open.{onto, MarkedMember, members_onto, objects_onto, Par, pars_onto, SignalPar, signal_pars_onto}

pub data OpenDots : List Units → List Token → List Token → Type 0 where
  od_none : {rest : List Token} → OpenDots [] rest rest
  od_more : {n : Units} {back : List Units} {a b c rest : List Token} → OpenDots back a b → Sees (k.Mark m.Dot) b c → Sees (k.Name n) c rest → OpenDots (n ∷ back) a rest

pub dots_closed : {back : List Units} {a b : List Token} → OpenDots back a b → {ns : Names} {rest : List Token} → ReadsDots ns b rest → ReadsDots (onto back ns) a rest
dots_closed od_none r = r
dots_closed (od_more o see nm) r = dots_closed o (d_more see nm r)

pub data OpenImports : List Import → List Token → List Token → Type 0 where
  oi_none : {rest : List Token} → OpenImports [] rest rest
  oi_more : {i : Import} {back : List Import} {a b rest : List Token} → OpenImports back a b → ReadsImport i b rest → OpenImports (i ∷ back) a rest

pub imports_closed : {back : List Import} {a b : List Token} → OpenImports back a b → {is : List Import} {rest : List Token} → ReadsImports is b rest → ReadsImports (onto back is) a rest
imports_closed oi_none r = r
imports_closed (oi_more o i) r = imports_closed o (im_more i r)

pub data OpenFunctions : List Function → List Token → List Token → Type 0 where
  of_none : {rest : List Token} → OpenFunctions [] rest rest
  of_more : {f : Function} {back : List Function} {a b rest : List Token} → OpenFunctions back a b → ReadsFunction f b rest → OpenFunctions (f ∷ back) a rest

pub functions_closed : {back : List Function} {a b : List Token} → OpenFunctions back a b → {fs : List Function} {rest : List Token} → ReadsFunctions fs b rest → ReadsFunctions (onto back fs) a rest
functions_closed of_none r = r
functions_closed (of_more o f) r = functions_closed o (fs_more f r)

pub data OpenMembers : List MarkedMember → List Token → List Token → Type 0 where
  om_none : {rest : List Token} → OpenMembers [] rest rest
  om_more : {x : Member} {s : Bool} {back : List MarkedMember} {a b c rest : List Token} → OpenMembers back a b → ReadsMember x b c → ReadsSemi s c rest → OpenMembers ((x, s) ∷ back) a rest

pub members_closed : {back : List MarkedMember} {a b : List Token} → OpenMembers back a b → {ms : Members} {rest : List Token} → ReadsMembers ms b rest → ReadsMembers (members_onto back ms) a rest
members_closed om_none r = r
members_closed (om_more o x s) r = members_closed o (ms_more x s r)

-- each with the comma behind it
pub data OpenObjects : List Object → List Token → List Token → Type 0 where
  oo_none : {rest : List Token} → OpenObjects [] rest rest
  oo_more : {x : Object} {back : List Object} {a b c rest : List Token} → OpenObjects back a b → ReadsObject x b c → Sees (k.Mark m.Comma) c rest → OpenObjects (x ∷ back) a rest

pub objects_closed : {back : List Object} {a b : List Token} → OpenObjects back a b → {os : Objects} {rest : List Token} → ReadsObjects os b rest → ReadsObjects (objects_onto back os) a rest
objects_closed oo_none r = r
objects_closed (oo_more o x s) r = objects_closed o (os_more x s r)

pub data OpenPars : List Par → List Token → List Token → Type 0 where
  op_none : {rest : List Token} → OpenPars [] rest rest
  op_more : {n : Units} {q : Option Kind} {back : List Par} {a b c d rest : List Token} → OpenPars back a b → Sees (k.Name n) b c → ReadsParKind q c d → Sees (k.Mark m.Comma) d rest → OpenPars ((n, q) ∷ back) a rest

pub pars_closed : {back : List Par} {a b : List Token} → OpenPars back a b → {n : Units} {q : Option Kind} {ps : Pars} {rest : List Token} → ReadsPars (a_par n q ps) b rest → ReadsPars (pars_onto back (a_par n q ps)) a rest
pars_closed op_none r = r
pars_closed (op_more o nm q s) r = pars_closed o (p_more nm q s r)

pub data OpenSignalPars : List SignalPar → List Token → List Token → Type 0 where
  og_none : {rest : List Token} → OpenSignalPars [] rest rest
  og_more : {n : Units} {q : Kind} {back : List SignalPar} {a b c d rest : List Token} → OpenSignalPars back a b → ReadsKind q b c → Sees (k.Name n) c d → Sees (k.Mark m.Comma) d rest → OpenSignalPars ((q, n) ∷ back) a rest

pub signal_pars_closed : {back : List SignalPar} {a b : List Token} → OpenSignalPars back a b → {n : Units} {q : Kind} {ps : SignalPars} {rest : List Token} → ReadsSignalPars (a_signal_par q n ps) b rest → ReadsSignalPars (signal_pars_onto back (a_signal_par q n ps)) a rest
signal_pars_closed og_none r = r
signal_pars_closed (og_more o q nm s) r = signal_pars_closed o (g_more q nm s r)
