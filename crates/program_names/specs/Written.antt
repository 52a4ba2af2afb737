-- The objects of a document as a table: in the order of writing, each before those that are written in it. A group is
-- opened: what is given in it is given under the names of the group and its own.
use Rattle.std.specs.Prelude.{ℕ, suc, ◌+◌, Bool, List, [], ◌∷◌, ◌++◌, Option, Some, None}
use Rattle.qml_base.specs.declared.numbers.Place.{Place}
use Rattle.qml_syntax.specs.declared.contextual.Adjective.{Adjective}
use Rattle.qml_syntax.specs.Tree.{Units, Stmt, TypeName, own_type, type_of, Kind, SignalPars, no_signal_pars, a_signal_par, Function, function, Object, object, Members, no_members, a_member, Member, id, property, bare, alias, signal, method, given, group, child, Value, value_object, value_list, value_stmt, Objects, last_object, an_object}

-- what is given for a name: a statement, the object of a number, or the objects of a list that begins at a place
pub data WrittenValue : Type 0 where
  by_stmt : Stmt → WrittenValue
  by_object : ℕ → WrittenValue
  by_list : Place → List ℕ → WrittenValue

-- A member of an object. The first place is that of its first token, a second one that of its name.
pub data WrittenMember : Type 0 where
  an_id : Place → Units → Place → WrittenMember
  a_property : Place → Adjective → Kind → Units → Place → Option WrittenValue → WrittenMember
  an_alias : Place → Bool → Units → Place → List Units → Place → WrittenMember  -- the names of its target, and their place
  a_signal : Place → Units → Place → List Units → WrittenMember  -- the names of its parameters
  a_function : Place → Function → Units → Place → WrittenMember
  a_value : Place → List Units → WrittenValue → WrittenMember
  a_group : Place → List Units → WrittenMember
  a_child : Place → ℕ → WrittenMember
  a_stray : Place → WrittenMember  -- what stands in a group and is no value; the place that is told of it

-- what an object is written as: the root, a child of an object, or a value in an object under some names
pub data WrittenAs : Type 0 where
  as_root : WrittenAs
  as_child : ℕ → WrittenAs
  as_value : ℕ → List Units → WrittenAs

pub record WrittenObject : Type 0 where
  pub type : TypeName
  pub role : WrittenAs
  pub members : List WrittenMember

abbrev pub place_of_type : TypeName → Place
place_of_type (own_type n p) = p
place_of_type (type_of q p n) = p

abbrev pub place_of_object : Object → Place
place_of_object (object t ms) = place_of_type t

abbrev names_in_brackets : SignalPars → List Units
names_in_brackets no_signal_pars = []
names_in_brackets (a_signal_par k n rest) = n ∷ names_in_brackets rest

abbrev pub parameter_names : Option SignalPars → List Units
parameter_names None = []
parameter_names (Some pars) = names_in_brackets pars

-- ---- how many objects are written

abbrev mutual
  pub count_object : Object → ℕ
  count_object (object t ms) = suc (count_members ms)

  pub count_members : Members → ℕ
  count_members no_members = 0
  count_members (a_member m b ms) = count_member m + count_members ms

  pub count_member : Member → ℕ
  count_member (id p n q c) = 0
  count_member (property p a k n q v) = count_value v
  count_member (bare p a k n q c) = 0
  count_member (alias p d n q t r ns c) = 0
  count_member (signal p n q ps c) = 0
  count_member (method f) = 0
  count_member (given n p ns v) = count_value v
  count_member (group n p ns ms) = count_members ms
  count_member (child o) = count_object o

  pub count_value : Value → ℕ
  count_value (value_object o) = count_object o
  count_value (value_list p os) = count_list os
  count_value (value_stmt s) = 0

  pub count_list : Objects → ℕ
  count_list (last_object o) = count_object o
  count_list (an_object o os) = count_object o + count_list os

-- ---- values and members

-- the numbers of the objects of a list, the first of which has this number
abbrev pub numbers_from : ℕ → Objects → List ℕ
numbers_from n (last_object o) = n ∷ []
numbers_from n (an_object o os) = n ∷ numbers_from (n + count_object o) os

abbrev pub value_from : ℕ → Value → WrittenValue
value_from n (value_object o) = by_object n
value_from n (value_list p os) = by_list p (numbers_from n os)
value_from n (value_stmt s) = by_stmt s

-- a declaration or a child, and what stands for it in a group
abbrev pub outside_group : List Units → Place → WrittenMember → WrittenMember
outside_group [] p m = m
outside_group (name ∷ names) p m = a_stray p

-- the member itself, where `before` are the names of the groups around it; the objects in it have the numbers from n on
abbrev pub member_from : List Units → ℕ → Member → WrittenMember
member_from before n (id p name q c) = outside_group before p (an_id p name q)
member_from before n (property p a k name q v) = outside_group before q (a_property p a k name q (Some (value_from n v)))
member_from before n (bare p a k name q c) = outside_group before q (a_property p a k name q None)
member_from before n (alias p d name q t r ts c) = outside_group before q (an_alias p d name q (t ∷ ts) r)
member_from before n (signal p name q ps c) = outside_group before q (a_signal p name q (parameter_names ps))
member_from before n (method (function p name q ps k ss)) = outside_group before q (a_function p (function p name q ps k ss) name q)
member_from before n (given name p ns v) = a_value p (before ++ name ∷ ns) (value_from n v)
member_from before n (group name p ns ms) = a_group p (before ++ name ∷ ns)
member_from before n (child o) = outside_group before (place_of_object o) (a_child (place_of_object o) n)

-- the members of an object or a group, each group with those in it behind it
abbrev mutual
  pub members_from : List Units → ℕ → Members → List WrittenMember
  members_from before n no_members = []
  members_from before n (a_member m b ms) =
      member_from before n m ∷ members_in before n m ++ members_from before (n + count_member m) ms

  pub members_in : List Units → ℕ → Member → List WrittenMember
  members_in before n (group name p ns ms) = members_from (before ++ name ∷ ns) n ms
  members_in before n _ = []

-- ---- an object with all that are written in it: the first has the number n, those in it the numbers behind

abbrev mutual
  pub objects_of : WrittenAs → ℕ → Object → List WrittenObject
  objects_of role n (object t ms) =
      record { type = t; role = role; members = members_from [] (suc n) ms } ∷ objects_of_members n [] (suc n) ms

  pub objects_of_members : ℕ → List Units → ℕ → Members → List WrittenObject
  objects_of_members owner before n no_members = []
  objects_of_members owner before n (a_member m b ms) =
      objects_of_member owner before n m ++ objects_of_members owner before (n + count_member m) ms

  pub objects_of_member : ℕ → List Units → ℕ → Member → List WrittenObject
  objects_of_member owner before n (id p name q c) = []
  objects_of_member owner before n (property p a k name q v) = objects_of_value (as_value owner (name ∷ [])) n v
  objects_of_member owner before n (bare p a k name q c) = []
  objects_of_member owner before n (alias p d name q t r ts c) = []
  objects_of_member owner before n (signal p name q ps c) = []
  objects_of_member owner before n (method f) = []
  objects_of_member owner before n (given name p ns v) = objects_of_value (as_value owner (before ++ name ∷ ns)) n v
  objects_of_member owner before n (group name p ns ms) = objects_of_members owner (before ++ name ∷ ns) n ms
  objects_of_member owner before n (child o) = objects_of (as_child owner) n o

  pub objects_of_value : WrittenAs → ℕ → Value → List WrittenObject
  objects_of_value role n (value_object o) = objects_of role n o
  objects_of_value role n (value_list p os) = objects_of_list role n os
  objects_of_value role n (value_stmt s) = []

  pub objects_of_list : WrittenAs → ℕ → Objects → List WrittenObject
  objects_of_list role n (last_object o) = objects_of role n o
  objects_of_list role n (an_object o os) = objects_of role n o ++ objects_of_list role (n + count_object o) os

-- ---- the members of all objects in the order of writing

-- a member with the number of its object
pub record OwnedMember : Type 0 where
  pub object : ℕ
  pub member : WrittenMember

abbrev pub row : ℕ → WrittenMember → OwnedMember
row o m = record { object = o; member = m }

abbrev mutual
  pub rows_of : ℕ → Object → List OwnedMember
  rows_of n (object t ms) = rows_of_members n [] (suc n) ms

  pub rows_of_members : ℕ → List Units → ℕ → Members → List OwnedMember
  rows_of_members o before n no_members = []
  rows_of_members o before n (a_member m b ms) =
      row o (member_from before n m) ∷ rows_in o before n m ++ rows_of_members o before (n + count_member m) ms

  -- those in a member, behind its own
  pub rows_in : ℕ → List Units → ℕ → Member → List OwnedMember
  rows_in o before n (id p name q c) = []
  rows_in o before n (property p a k name q v) = rows_of_value n v
  rows_in o before n (bare p a k name q c) = []
  rows_in o before n (alias p d name q t r ts c) = []
  rows_in o before n (signal p name q ps c) = []
  rows_in o before n (method f) = []
  rows_in o before n (given name p ns v) = rows_of_value n v
  rows_in o before n (group name p ns ms) = rows_of_members o (before ++ name ∷ ns) n ms
  rows_in o before n (child c) = rows_of n c

  pub rows_of_value : ℕ → Value → List OwnedMember
  rows_of_value n (value_object c) = rows_of n c
  rows_of_value n (value_list p os) = rows_of_list n os
  rows_of_value n (value_stmt s) = []

  pub rows_of_list : ℕ → Objects → List OwnedMember
  rows_of_list n (last_object c) = rows_of n c
  rows_of_list n (an_object c os) = rows_of n c ++ rows_of_list (n + count_object c) os
