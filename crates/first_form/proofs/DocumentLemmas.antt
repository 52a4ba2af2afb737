-- A document is read exactly where it is spelled.
use Rattle.std.proofs.Common.{◌≡◌, ◌≢◌, ◌⊎◌, ◌∙◌, ap, sym, refl, subst, ℕ, ◌-◌, ◌≤◌, ◌==◌, ◌||◌, ◌&&◌, not, is_some, arith, nat_le, nat_eq, Bool, true, false, inl, inr, List, [], ◌∷◌, ◌++◌, length, take, drop, slice_get, append_assoc, append-nil, None, Some, if◌then◌else◌, codes, true≢false}
use Rattle.std.specs.declared.option.Option.{Option}
use Rattle.std.specs.Option.{option_map}
use Rattle.std.specs.List.{starts_with, ends_with}
use Rattle.std.specs.Str.{bytes_eq}
use Rattle.std.proofs.lemmas.Bool.Decides.{nat_tests, Decides-eqb}
use Rattle.std.proofs.lemmas.Grind.{common_steps}
use Rattle.std.proofs.lemmas.Slice.Eq.{bytes_eq-Decides, starts_is, ends_is}
use Rattle.first_form.specs.declared.members.Member.{Member}
use Rattle.first_form.specs.Blanks.{◌>>=◌, is_spaces, after_spaces, word_of, behind_word, lone_word, begins_with_line_feed, begins_with_line_end, after_gap, without_return, after_front}
use Rattle.first_form.specs.Document.{after_word, declared_name, with_value, member_of, names_of, members_in, members_at, members_of, is_empty, in_braces, object_below, program_of}
use Rattle.first_form.specs.DocumentForm.{IsValue, IsBreak, IsHead, IsMember, IsEnd, AreMembers, no_more, final, empty_line, more, IsDocument}
use Rattle.first_form.specs.Forms.{IsSpaces, IsLineEnd, IsGap}
use Rattle.first_form.specs.Names.{is_name, cell_of, is_new_name}
use Rattle.first_form.specs.Pieces.{is_mark, Cut, cut_of, Pieces, last, piece, pieces_of}
use Rattle.first_form.specs.Values.{content_of}
use Rattle.first_form.proofs.FormLemmas.{word_starts, IsWord, BeginsSpace, BeginsNoSpace, equal_is, other_is, spaces_found, spaces_only, after_spaces-append, after_spaces-other, after_spaces-front, word_of-append, behind_word-append, word_cut, lone_found, lone_only, blank_cut, after_gap-append, after_gap-front}
use Rattle.first_form.proofs.MapLemmas.{is_none_of}
use Rattle.first_form.proofs.MarkLemmas.{one_mark, Clean, Clean-append, Over, Over-append, Over-more, over_clean, cut_found, cut_of-mark, joined, AreCut, joined-pieces_of, pieces_are_cut, pieces_of-mark, pieces_of-clean}
use Rattle.first_form.proofs.NameLemmas.{cell_none, cell_missing, name_word, name_over, name_some, letters_word, letters_over, and_left, and_right}
use Rattle.first_form.proofs.ValueLemmas.{AreNames, AreNames-snoc, bind_some, map_some, spaces_over, wider, value_found, value_only, value_over}

-- ---- words
behind_begins : (bs : List ℕ) → BeginsSpace (behind_word bs)
behind_begins [] = tt
behind_begins (b ∷ bs) = by (b == 32) refl (behind_begins bs)
  where
    by : (t : Bool) → (b == 32) ≡ t → BeginsSpace (behind_word bs) → BeginsSpace (behind_word (b ∷ bs))
    by true f rest = subst (λ t. BeginsSpace (if t then b ∷ bs else behind_word bs)) (sym f) (equal_is b 32 f)
    by false f rest = subst (λ t. BeginsSpace (if t then b ∷ bs else behind_word bs)) (sym f) rest

after_word_found : (word bytes rest : List ℕ) → after_word word bytes ≡ Some rest → (front : List ℕ) × (bytes ≡ front ++ (word ++ rest)) × IsSpaces front × BeginsSpace rest
after_word_found word bytes rest e = by (bytes_eq (word_of (after_spaces bytes)) word) refl
  where
    by : (t : Bool) → bytes_eq (word_of (after_spaces bytes)) word ≡ t → (front : List ℕ) × (bytes ≡ front ++ (word ++ rest)) × IsSpaces front × BeginsSpace rest
    by true f =
        let (front, cut, spaces) = after_spaces-front bytes in
        let opened : Some (behind_word (after_spaces bytes)) ≡ Some rest = sym (ap (λ t. if t then Some (behind_word (after_spaces bytes)) else None) f) ∙ e in
        let is : behind_word (after_spaces bytes) ≡ rest = cc in
        let named : word_of (after_spaces bytes) ≡ word = (bytes_eq-Decides (word_of (after_spaces bytes)) word).0 f in
        (front, cut ∙ ap (λ (xs : List ℕ). front ++ xs) (word_cut (after_spaces bytes) ∙ ap (λ (xs : List ℕ). xs ++ behind_word (after_spaces bytes)) named ∙ ap (λ (xs : List ℕ). word ++ xs) is), spaces, subst BeginsSpace is (behind_begins (after_spaces bytes)))
    by false f = absurd (cc (ap (λ t. if t then Some (behind_word (after_spaces bytes)) else None) f))

after_word_only : (front word rest : List ℕ) → IsSpaces front → IsWord word → word ≢ [] → BeginsSpace rest → after_word word (front ++ (word ++ rest)) ≡ Some rest
after_word_only front word rest f w n b =
    let at : after_spaces (front ++ (word ++ rest)) ≡ word ++ rest = after_spaces-append front (word ++ rest) f ∙ after_spaces-other (word ++ rest) (word_starts word rest w n) in
    let named : bytes_eq (word_of (after_spaces (front ++ (word ++ rest)))) word ≡ true = (bytes_eq-Decides (word_of (after_spaces (front ++ (word ++ rest)))) word).1 (ap word_of at ∙ word_of-append word rest w b) in
    ap (λ t. if t then Some (behind_word (after_spaces (front ++ (word ++ rest)))) else None) named ∙ ap Some (ap behind_word at ∙ behind_word-append word rest w b)

break_begins : (bs rest : List ℕ) → IsBreak bs → BeginsSpace (bs ++ rest)
break_begins [] rest (s, n) = absurd (n refl)
break_begins (b ∷ bs) rest (s, n) = s.0

int_starts : (rest : List ℕ) → BeginsSpace (codes "int" ++ rest) → ⊥
int_starts rest e = cc

head_found : (bytes name : List ℕ) → declared_name bytes ≡ Some name → is_name name ≡ true → IsHead name bytes
head_found bytes name e named =
    let (mid, middle, lone) = bind_some (after_word (codes "property") bytes >>= after_word (codes "int")) lone_word name e in
    let (kind, begun, then_int) = bind_some (after_word (codes "property") bytes) (after_word (codes "int")) mid middle in
    let (front, spelled_1, front_is, begins_1) = after_word_found (codes "property") bytes kind begun in
    let (first, spelled_2, first_is, begins_2) = after_word_found (codes "int") kind mid then_int in
    let (second, text, back, spelled_3, second_is, same, back_is) = lone_found mid name lone in
    record {
      front = front;
      first = first;
      second = second;
      back = back;
      spelled = spelled_1 ∙ ap (λ (xs : List ℕ). front ++ (codes "property" ++ xs)) (spelled_2 ∙ ap (λ (xs : List ℕ). first ++ (codes "int" ++ xs)) (spelled_3 ∙ ap (λ (xs : List ℕ). second ++ (xs ++ back)) same));
      front_is = front_is;
      first_is = (first_is, λ none. int_starts mid (subst BeginsSpace (spelled_2 ∙ ap (λ (xs : List ℕ). xs ++ (codes "int" ++ mid)) none) begins_1));
      second_is = (second_is, λ none. starts_twice (name ++ back) (subst BeginsSpace (spelled_3 ∙ ap (λ (xs : List ℕ). xs ++ (text ++ back)) none ∙ ap (λ (xs : List ℕ). xs ++ back) same) begins_2) (word_starts name back (name_word name named) (name_some name named)) (some_more name back (name_some name named)));
      back_is = back_is;
    }
  where
    starts_twice : (xs : List ℕ) → BeginsSpace xs → BeginsNoSpace xs → xs ≢ [] → ⊥
    starts_twice [] a b n = n refl
    starts_twice (x ∷ xs) a b n = b a

    some_more : (xs ys : List ℕ) → xs ≢ [] → xs ++ ys ≢ []
    some_more [] ys n e = n refl
    some_more (x ∷ xs) ys n e = cc

head_only : (bytes name : List ℕ) → IsHead name bytes → is_name name ≡ true → declared_name bytes ≡ Some name
head_only bytes name head named =
    let mid : List ℕ = head.second ++ (name ++ head.back) in
    let kind : List ℕ = head.first ++ (codes "int" ++ mid) in
    let one : after_word (codes "property") bytes ≡ Some kind =
    ap (after_word (codes "property")) head.spelled ∙ after_word_only head.front (codes "property") kind head.front_is (letters_word (codes "property") refl) (λ e. cc) (break_begins head.first (codes "int" ++ mid) head.first_is) in
    let two : after_word (codes "int") kind ≡ Some mid =
    after_word_only head.first (codes "int") mid head.first_is.0 (letters_word (codes "int") refl) (λ e. cc) (break_begins head.second (name ++ head.back) head.second_is) in
    ap (λ (o : Option (List ℕ)). o >>= after_word (codes "int") >>= lone_word) one
    ∙ ap (λ (o : Option (List ℕ)). o >>= lone_word) two
    ∙ lone_only head.second name head.back head.second_is.0 (name_word name named) (name_some name named) head.back_is

head_over : (bytes name : List ℕ) → IsHead name bytes → is_name name ≡ true → Over [] bytes
head_over bytes name head named =
    subst (Over []) (sym head.spelled)
    (Over-append [] head.front _ (spaces_over head.front head.front_is)
    (Over-append [] (codes "property") _ (letters_over (codes "property") refl)
    (Over-append [] head.first _ (spaces_over head.first head.first_is.0)
    (Over-append [] (codes "int") _ (letters_over (codes "int") refl)
    (Over-append [] head.second _ (spaces_over head.second head.second_is.0)
    (Over-append [] name head.back (name_over name named) (spaces_over head.back head.back_is)))))))

-- ---- members
not_is : (b : Bool) → not b ≡ true → b ≡ false
not_is true e = absurd (cc)
not_is false e = refl

valued : (names : List (List ℕ)) → AreNames names → (name value : List ℕ) (m : Member) → with_value names name value ≡ Some m → (m.name ≡ name) × (is_name name ≡ true) × ((c : ℕ) → slice_get names c ≢ Some name) × IsValue names m.content value
valued names are name value m e = by (is_new_name names name) refl
  where
    by : (t : Bool) → is_new_name names name ≡ t → (m.name ≡ name) × (is_name name ≡ true) × ((c : ℕ) → slice_get names c ≢ Some name) × IsValue names m.content value
    by true f =
        let (content, read, is) = map_some {B = Member} (content_of names value) (λ content. record { name = name; content = content }) m (sym (ap (λ t. if t then option_map {U = Member} (λ content. record { name = name; content = content }) (content_of names value) else None) f) ∙ e) in
        let missing : cell_of names name ≡ None = is_none_of (cell_of names name) (not_is (is_some (cell_of names name)) (and_right (is_name name) (not (is_some (cell_of names name))) f)) in (
          ap (λ (m : Member). m.name) (sym is),
          and_left (is_name name) (not (is_some (cell_of names name))) f,
          cell_none names name missing,
          subst (λ (m : Member). IsValue names m.content value) is (value_found names are value content read),
        )
    by false f = absurd (cc (ap (λ t. if t then option_map {U = Member} (λ content. record { name = name; content = content }) (content_of names value) else None) f))

member_found : (names : List (List ℕ)) → AreNames names → (line : List ℕ) (m : Member) → member_of names line ≡ Some m → IsMember names m line
unfolding member_of
member_found names are line m e =
    let (c, cut, found) = bind_some (cut_of (58 ∷ []) line) (λ c. declared_name c.before >>= λ name. with_value names name c.after) m e in
    let (name, declared, given) = bind_some (declared_name c.before) (λ name. with_value names name c.after) m found in
    let (spelled, mark, clean) = cut_found (58 ∷ []) line c cut in
    let (is, named, fresh, value) = valued names are name c.after m given in
    record {
      head = c.before;
      value = c.after;
      spelled = spelled ∙ ap (λ k. c.before ++ k ∷ c.after) (one_mark 58 c.mark mark);
      head_is = subst (λ (n : List ℕ). IsHead n c.before) (sym is) (head_found c.before name declared named);
      named = ap is_name is ∙ named;
      new = λ k h. fresh k (h ∙ ap Some is);
      value_is = value;
    }

member_only : (names : List (List ℕ)) (line : List ℕ) (m : Member) → IsMember names m line → member_of names line ≡ Some m
unfolding member_of
member_only names line m is =
    let fresh : is_new_name names m.name ≡ true = ap (λ t. t && not (is_some (cell_of names m.name))) is.named ∙ ap (λ (o : Option ℕ). not (is_some o)) (cell_missing names m.name is.new) in
    ap (λ (xs : List ℕ). cut_of (58 ∷ []) xs >>= λ c. declared_name c.before >>= λ name. with_value names name c.after) is.spelled
    ∙ ap (λ (o : Option Cut). o >>= λ c. declared_name c.before >>= λ name. with_value names name c.after) (cut_of-mark (58 ∷ []) is.head 58 is.value (over_clean [] (58 ∷ []) refl is.head (head_over is.head m.name is.head_is is.named)) refl)
    ∙ ap (λ (o : Option (List ℕ)). o >>= λ name. with_value names name is.value) (head_only is.head m.name is.head_is is.named)
    ∙ ap (λ t. if t then option_map {U = Member} (λ content. record { name = m.name; content = content }) (content_of names is.value) else None) fresh
    ∙ ap (option_map {U = Member} (λ content. record { name = m.name; content = content })) (value_only names m.content is.value is.value_is)

with_colon : (b : ℕ) → is_mark (43 ∷ 45 ∷ 42 ∷ []) b ≡ true → is_mark (58 ∷ 43 ∷ 45 ∷ 42 ∷ []) b ≡ true
with_colon b e = right (58 == b) e
  where
    right : (t : Bool) → is_mark (43 ∷ 45 ∷ 42 ∷ []) b ≡ true → (t || is_mark (43 ∷ 45 ∷ 42 ∷ []) b) ≡ true
    right true e = refl
    right false e = e

member_over : (names : List (List ℕ)) (line : List ℕ) (m : Member) → IsMember names m line → Over (58 ∷ 43 ∷ 45 ∷ 42 ∷ []) line
member_over names line m is =
    subst (Over (58 ∷ 43 ∷ 45 ∷ 42 ∷ [])) (sym is.spelled)
    (Over-append (58 ∷ 43 ∷ 45 ∷ 42 ∷ []) is.head (58 ∷ is.value) (wider (58 ∷ 43 ∷ 45 ∷ 42 ∷ []) is.head (head_over is.head m.name is.head_is is.named))
    (refl, Over-more (43 ∷ 45 ∷ 42 ∷ []) (58 ∷ 43 ∷ 45 ∷ 42 ∷ []) with_colon is.value (value_over names m.content is.value is.value_is)))

no_spaces : (head value : List ℕ) → IsSpaces (head ++ 58 ∷ value) → ⊥
no_spaces [] value h = other_is 58 32 refl h.0
no_spaces (b ∷ head) value h = no_spaces head value h.1

false_from : (b : Bool) → (b ≡ true → ⊥) → b ≡ false
false_from true n = absurd (n refl)
false_from false n = refl

member_no_spaces : (names : List (List ℕ)) (line : List ℕ) (m : Member) → IsMember names m line → is_spaces line ≡ false
member_no_spaces names line m is = false_from (is_spaces line) (λ e. no_spaces is.head is.value (subst IsSpaces is.spelled (spaces_found line e)))

-- ---- lines
return_clean : (w : List ℕ) → Clean (13 ∷ []) (w ++ 13 ∷ []) → ⊥
return_clean [] h = true≢false h.0
return_clean (b ∷ w) h = return_clean w h.1

pub ends_return : (line : List ℕ) → (ends_with nat_eq line (13 ∷ []) ≡ true → line ≡ take (length line - 1) line ++ 13 ∷ []) × ((front : List ℕ) → line ≡ front ++ 13 ∷ [] → ends_with nat_eq line (13 ∷ []) ≡ true)
ends_return line = ends_is Decides-eqb line (13 ∷ []) (ends_with nat_eq line (13 ∷ [])) refl

pub without_return-other : (line : List ℕ) → ((front : List ℕ) → line ≡ front ++ 13 ∷ [] → ⊥) → without_return line ≡ line
without_return-other line n = by (ends_with nat_eq line (13 ∷ [])) refl
  where
    by : (t : Bool) → ends_with nat_eq line (13 ∷ []) ≡ t → without_return line ≡ line
    by true f = absurd (n (take (length line - 1) line) ((ends_return line).0 f))
    by false f = ap (λ t. if t then take (length line - 1) line else line) f

front_is : (w : List ℕ) (x : ℕ) → take (length (w ++ x ∷ []) - 1) (w ++ x ∷ []) ≡ w
front_is w x = grind (arith, common_steps)

pub without_return-return : (w : List ℕ) → without_return (w ++ 13 ∷ []) ≡ w
without_return-return w = ap (λ t. if t then take (length (w ++ 13 ∷ []) - 1) (w ++ 13 ∷ []) else w ++ 13 ∷ []) ((ends_return (w ++ 13 ∷ [])).1 w refl) ∙ front_is w 13

pub without_return-clean : (w : List ℕ) → Clean (13 ∷ []) w → without_return w ≡ w
without_return-clean w h = without_return-other w (λ front e. return_clean front (subst (Clean (13 ∷ [])) e h))

-- a line is cut from its end
pub line_cut : (line : List ℕ) → (line_end : List ℕ) × IsLineEnd line_end × ((rest : List ℕ) → without_return line ++ (line_end ++ rest) ≡ line ++ 10 ∷ rest)
line_cut line = by (ends_with nat_eq line (13 ∷ [])) refl
  where
    by : (t : Bool) → ends_with nat_eq line (13 ∷ []) ≡ t → (line_end : List ℕ) × IsLineEnd line_end × ((rest : List ℕ) → without_return line ++ (line_end ++ rest) ≡ line ++ 10 ∷ rest)
    by true f =
        let alone : without_return line ≡ take (length line - 1) line = ap (λ t. if t then take (length line - 1) line else line) f in
        (13 ∷ 10 ∷ [], inr refl, λ rest. ap (λ (w : List ℕ). w ++ 13 ∷ 10 ∷ rest) alone ∙ sym (append_assoc (take (length line - 1) line) (13 ∷ []) (10 ∷ rest)) ∙ ap (λ (w : List ℕ). w ++ 10 ∷ rest) (sym ((ends_return line).0 f)))
    by false f = (10 ∷ [], inl refl, λ rest. ap (λ (w : List ℕ). w ++ 10 ∷ rest) (ap (λ t. if t then take (length line - 1) line else line) f))

-- ---- the members
empty_case : (names : List (List ℕ)) (ms : List Member) (line rest : List ℕ) → is_spaces (without_return line) ≡ true → AreMembers names ms rest → AreMembers names ms (line ++ 10 ∷ rest)
empty_case names ms line rest e are =
    let (line_end, is, cut) = line_cut line in
    subst (AreMembers names ms) (cut rest) (empty_line names ms (without_return line) line_end rest (spaces_found (without_return line) e) is are)

ended_case : (names : List (List ℕ)) (m : Member) (ms : List Member) (line rest : List ℕ) → IsMember names m (without_return line) → AreMembers (names ++ m.name ∷ []) ms rest → AreMembers names (m ∷ ms) (line ++ 10 ∷ rest)
ended_case names m ms line rest is are =
    let (line_end, end_is, cut) = line_cut line in
    subst (AreMembers names (m ∷ ms)) (cut rest) (more names m ms (without_return line) line_end rest is (inr end_is) are)

semi_case : (names : List (List ℕ)) (m : Member) (ms : List Member) (line rest : List ℕ) → IsMember names m line → AreMembers (names ++ m.name ∷ []) ms rest → AreMembers names (m ∷ ms) (line ++ 59 ∷ rest)
semi_case names m ms line rest is are = more names m ms line (59 ∷ []) rest is (inl refl) are

-- what a line gives: nothing where it is spaces, and else one member
abbrev Gives : List (List ℕ) → List ℕ → List Member → Type 0
Gives names line ms = ((is_spaces line ≡ true) × (ms ≡ [])) ⊎ ((m : Member) × IsMember names m line × (ms ≡ m ∷ []))

line_gives : (names : List (List ℕ)) → AreNames names → (line : List ℕ) (ms : List Member) → members_in names line ≡ Some ms → Gives names line ms
line_gives names are line ms e = by (is_spaces line) refl
  where
    by : (t : Bool) → is_spaces line ≡ t → Gives names line ms
    by true f =
        let opened : Some [] ≡ Some ms = sym (ap (λ t. if t then Some [] else option_map (λ m. m ∷ []) (member_of names line)) f) ∙ e in
        inl (f, cc)
    by false f =
        let (m, read, same) = map_some (member_of names line) (λ m. m ∷ []) ms (sym (ap (λ t. if t then Some [] else option_map (λ m. m ∷ []) (member_of names line)) f) ∙ e) in
        inr (m, member_found names are line m read, sym same)

-- what stands before a mark, and what follows it
joins : (names : List (List ℕ)) → AreNames names → (line : List ℕ) (mark : ℕ) (rest : List ℕ) (found after : List Member) → is_mark (59 ∷ 10 ∷ []) mark ≡ true → members_at names mark line ≡ Some found
    → (AreNames (names ++ names_of found) → AreMembers (names ++ names_of found) after rest) → AreMembers names (found ++ after) (line ++ mark ∷ rest)
joins names are line mark rest found after marked at go = by (mark == 10) refl
  where
    fed : (mark ≡ 10) → Gives names (without_return line) found → AreMembers names (found ++ after) (line ++ mark ∷ rest)
    fed ten (inl (spaces, none)) =
        let all : AreMembers names after rest = subst (λ (ns : List (List ℕ)). AreMembers ns after rest) (ap (λ (ms : List Member). names ++ names_of ms) none ∙ append-nil names) (go (subst AreNames (sym (append-nil names) ∙ ap (λ (ms : List Member). names ++ names_of ms) (sym none)) are)) in
        subst (λ (ms : List Member). AreMembers names (ms ++ after) (line ++ mark ∷ rest)) (sym none) (subst (λ k. AreMembers names after (line ++ k ∷ rest)) (sym ten) (empty_case names after line rest spaces all))
    fed ten (inr (m, is, one)) =
        let all : AreMembers (names ++ m.name ∷ []) after rest = subst (λ (ms : List Member). AreMembers (names ++ names_of ms) after rest) one (go (subst (λ (ms : List Member). AreNames (names ++ names_of ms)) (sym one) (AreNames-snoc names m.name are is.named))) in
        subst (λ (ms : List Member). AreMembers names (ms ++ after) (line ++ mark ∷ rest)) (sym one) (subst (λ k. AreMembers names (m ∷ after) (line ++ k ∷ rest)) (sym ten) (ended_case names m after line rest is all))

    semi : (59 == mark) ≡ true → option_map (λ m. m ∷ []) (member_of names line) ≡ Some found → AreMembers names (found ++ after) (line ++ mark ∷ rest)
    semi f e =
        let (m, read, one) = map_some (member_of names line) (λ m. m ∷ []) found e in
        let is = member_found names are line m read in
        let all : AreMembers (names ++ m.name ∷ []) after rest = subst (λ (ms : List Member). AreMembers (names ++ names_of ms) after rest) (sym one) (go (subst (λ (ms : List Member). AreNames (names ++ names_of ms)) one (AreNames-snoc names m.name are is.named))) in
        subst (λ (ms : List Member). AreMembers names (ms ++ after) (line ++ mark ∷ rest)) one (subst (λ k. AreMembers names (m ∷ after) (line ++ k ∷ rest)) (equal_is 59 mark f) (semi_case names m after line rest is all))

    other : (a b : Bool) → (59 == mark) ≡ a → (10 == mark) ≡ b → (mark == 10) ≡ false → (59 == mark) ≡ true
    other true b f g h = f
    other false true f g h = absurd (other_is mark 10 h (sym (equal_is 10 mark g)))
    other false false f g h = absurd (true≢false (sym marked ∙ ap (λ t. t || ((10 == mark) || false)) f ∙ ap (λ t. t || false) g))

    by : (t : Bool) → (mark == 10) ≡ t → AreMembers names (found ++ after) (line ++ mark ∷ rest)
    by true f = fed (equal_is mark 10 f) (line_gives names are (without_return line) found (sym (ap (λ t. if t then members_in names (without_return line) else option_map (λ m. m ∷ []) (member_of names line)) f) ∙ at))
    by false f = semi (other (59 == mark) (10 == mark) refl refl f) (sym (ap (λ t. if t then members_in names (without_return line) else option_map (λ m. m ∷ []) (member_of names line)) f) ∙ at)

last_case : (names : List (List ℕ)) (line : List ℕ) (ms : List Member) → Gives names line ms → AreMembers names ms line
last_case names line ms (inl (spaces, none)) = subst (λ (xs : List Member). AreMembers names xs line) (sym none) (no_more names line (spaces_found line spaces))
last_case names line ms (inr (m, is, one)) = subst (λ (xs : List Member). AreMembers names xs line) (sym one) (final names m line is)

members_found : (names : List (List ℕ)) → AreNames names → (ps : Pieces) (ms : List Member) → AreCut (59 ∷ 10 ∷ []) ps → members_of names ps ≡ Some ms → AreMembers names ms (joined ps)
members_found names are (last line) ms cut e = last_case names line ms (line_gives names are line ms e)
members_found names are (piece line mark rest) ms (marked, clean, cut) e =
    let (found, at, rest_is) = bind_some (members_at names mark line) (λ ms. option_map (λ more. ms ++ more) (members_of (names ++ names_of ms) rest)) ms e in
    let (after, read, same) = map_some (members_of (names ++ names_of found) rest) (λ more. found ++ more) ms rest_is in
    subst (λ (xs : List Member). AreMembers names xs (line ++ mark ∷ joined rest)) same (joins names are line mark (joined rest) found after marked at (λ named. members_found (names ++ names_of found) named rest after cut read))

-- ---- and back
in_line : (names : List (List ℕ)) (line : List ℕ) (m : Member) → IsMember names m line → members_in names line ≡ Some (m ∷ [])
in_line names line m is = ap (λ t. if t then Some [] else option_map (λ m. m ∷ []) (member_of names line)) (member_no_spaces names line m is) ∙ ap (option_map (λ m. m ∷ [])) (member_only names line m is)

in_empty : (names : List (List ℕ)) (line : List ℕ) → IsSpaces line → members_in names line ≡ Some []
in_empty names line h = ap (λ t. if t then Some [] else option_map (λ m. m ∷ []) (member_of names line)) (spaces_only line h)

spaces_clean : (marks bs : List ℕ) → is_mark marks 32 ≡ false → IsSpaces bs → Clean marks bs
spaces_clean marks [] e h = tt
spaces_clean marks (b ∷ bs) e h = (ap (is_mark marks) h.0 ∙ e, spaces_clean marks bs e h.1)

abbrev rest_of : List (List ℕ) → Pieces → List Member → Option (List Member)
rest_of names rest found = option_map (λ more. found ++ more) (members_of (names ++ names_of found) rest)

-- a line before a line end
fed_only : (names : List (List ℕ)) (line line_end rest : List ℕ) (found : List Member) → Clean (59 ∷ 10 ∷ []) line → Clean (13 ∷ []) line → IsLineEnd line_end → members_in names line ≡ Some found
    → members_of names (pieces_of (59 ∷ 10 ∷ []) (line ++ (line_end ++ rest))) ≡ rest_of names (pieces_of (59 ∷ 10 ∷ []) rest) found
fed_only names line line_end rest found clean no_return (inl e) at =
    ap (λ (xs : List ℕ). members_of names (pieces_of (59 ∷ 10 ∷ []) (line ++ (xs ++ rest)))) e
    ∙ ap (members_of names) (pieces_of-mark (59 ∷ 10 ∷ []) line 10 rest clean refl)
    ∙ ap (λ (o : Option (List Member)). o >>= rest_of names (pieces_of (59 ∷ 10 ∷ []) rest)) (ap (members_in names) (without_return-clean line no_return) ∙ at)
fed_only names line line_end rest found clean no_return (inr e) at =
    ap (λ (xs : List ℕ). members_of names (pieces_of (59 ∷ 10 ∷ []) (line ++ (xs ++ rest)))) e
    ∙ ap (λ (xs : List ℕ). members_of names (pieces_of (59 ∷ 10 ∷ []) xs)) (sym (append_assoc line (13 ∷ []) (10 ∷ rest)))
    ∙ ap (members_of names) (pieces_of-mark (59 ∷ 10 ∷ []) (line ++ 13 ∷ []) 10 rest (Clean-append (59 ∷ 10 ∷ []) line (13 ∷ []) clean (refl, tt)) refl)
    ∙ ap (λ (o : Option (List Member)). o >>= rest_of names (pieces_of (59 ∷ 10 ∷ []) rest)) (ap (members_in names) (without_return-return line) ∙ at)

semi_only : (names : List (List ℕ)) (line rest : List ℕ) (m : Member) → Clean (59 ∷ 10 ∷ []) line → IsMember names m line
    → members_of names (pieces_of (59 ∷ 10 ∷ []) (line ++ 59 ∷ rest)) ≡ rest_of names (pieces_of (59 ∷ 10 ∷ []) rest) (m ∷ [])
semi_only names line rest m clean is =
    ap (members_of names) (pieces_of-mark (59 ∷ 10 ∷ []) line 59 rest clean refl)
    ∙ ap (λ (o : Option (List Member)). o >>= rest_of names (pieces_of (59 ∷ 10 ∷ []) rest)) (ap (option_map (λ m. m ∷ [])) (member_only names line m is))

ended_only : (names : List (List ℕ)) (line ending rest : List ℕ) (m : Member) → IsMember names m line → IsEnd ending → members_of names (pieces_of (59 ∷ 10 ∷ []) (line ++ (ending ++ rest))) ≡ rest_of names (pieces_of (59 ∷ 10 ∷ []) rest) (m ∷ [])
ended_only names line ending rest m is (inl e) =
    ap (λ (xs : List ℕ). members_of names (pieces_of (59 ∷ 10 ∷ []) (line ++ (xs ++ rest)))) e
    ∙ semi_only names line rest m (over_clean (58 ∷ 43 ∷ 45 ∷ 42 ∷ []) (59 ∷ 10 ∷ []) refl line (member_over names line m is)) is
ended_only names line ending rest m is (inr e) =
    fed_only names line ending rest (m ∷ []) (over_clean (58 ∷ 43 ∷ 45 ∷ 42 ∷ []) (59 ∷ 10 ∷ []) refl line (member_over names line m is)) (over_clean (58 ∷ 43 ∷ 45 ∷ 42 ∷ []) (13 ∷ []) refl line (member_over names line m is)) e (in_line names line m is)

members_only : (names : List (List ℕ)) (ms : List Member) (bytes : List ℕ) → AreMembers names ms bytes → members_of names (pieces_of (59 ∷ 10 ∷ []) bytes) ≡ Some ms
members_only _ _ _ (no_more names spaces h) = ap (members_of names) (pieces_of-clean (59 ∷ 10 ∷ []) spaces (spaces_clean (59 ∷ 10 ∷ []) spaces refl h)) ∙ in_empty names spaces h
members_only _ _ _ (final names m line is) = ap (members_of names) (pieces_of-clean (59 ∷ 10 ∷ []) line (over_clean (58 ∷ 43 ∷ 45 ∷ 42 ∷ []) (59 ∷ 10 ∷ []) refl line (member_over names line m is))) ∙ in_line names line m is
members_only _ _ _ (empty_line names ms spaces line_end rest h e are) =
    fed_only names spaces line_end rest [] (spaces_clean (59 ∷ 10 ∷ []) spaces refl h) (spaces_clean (13 ∷ []) spaces refl h) e (in_empty names spaces h)
    ∙ ap (λ (ns : List (List ℕ)). option_map (λ (xs : List Member). [] ++ xs) (members_of ns (pieces_of (59 ∷ 10 ∷ []) rest))) (append-nil names)
    ∙ ap (option_map (λ (xs : List Member). [] ++ xs)) (members_only names ms rest are)
members_only _ _ _ (more names m ms line ending rest is e are) =
    ended_only names line ending rest m is e ∙ ap (option_map (λ (xs : List Member). m ∷ xs)) (members_only (names ++ m.name ∷ []) ms rest are)

members_clean : (names : List (List ℕ)) (ms : List Member) (bytes : List ℕ) → AreMembers names ms bytes → Clean (125 ∷ []) bytes
members_clean _ _ _ (no_more names spaces h) = spaces_clean (125 ∷ []) spaces refl h
members_clean _ _ _ (final names m line is) = over_clean (58 ∷ 43 ∷ 45 ∷ 42 ∷ []) (125 ∷ []) refl line (member_over names line m is)
members_clean _ _ _ (empty_line names ms spaces line_end rest h e are) =
    Clean-append (125 ∷ []) spaces (line_end ++ rest) (spaces_clean (125 ∷ []) spaces refl h) (Clean-append (125 ∷ []) line_end rest (end_clean line_end e) (members_clean names ms rest are))
  where
    end_clean : (e : List ℕ) → IsLineEnd e → Clean (125 ∷ []) e
    end_clean e (inl is) = subst (Clean (125 ∷ [])) (sym is) (refl, tt)
    end_clean e (inr is) = subst (Clean (125 ∷ [])) (sym is) (refl, (refl, tt))
members_clean _ _ _ (more names m ms line ending rest is e are) =
    Clean-append (125 ∷ []) line (ending ++ rest) (over_clean (58 ∷ 43 ∷ 45 ∷ 42 ∷ []) (125 ∷ []) refl line (member_over names line m is)) (Clean-append (125 ∷ []) ending rest (end_clean ending e) (members_clean (names ++ m.name ∷ []) ms rest are))
  where
    end_clean : (e : List ℕ) → IsEnd e → Clean (125 ∷ []) e
    end_clean e (inl is) = subst (Clean (125 ∷ [])) (sym is) (refl, tt)
    end_clean e (inr (inl is)) = subst (Clean (125 ∷ [])) (sym is) (refl, tt)
    end_clean e (inr (inr is)) = subst (Clean (125 ∷ [])) (sym is) (refl, (refl, tt))

-- ---- the object
drop_front : (front rest : List ℕ) → drop (length front) (front ++ rest) ≡ rest
drop_front [] rest = refl
drop_front (b ∷ front) rest = drop_front front rest

front_starts : (front bytes : List ℕ) → (starts_with nat_eq bytes front ≡ true → bytes ≡ front ++ drop (length front) bytes) × ((rest : List ℕ) → bytes ≡ front ++ rest → starts_with nat_eq bytes front ≡ true)
front_starts front bytes = starts_is Decides-eqb bytes front (starts_with nat_eq bytes front) refl

pub after_front_found : (front bytes rest : List ℕ) → after_front front bytes ≡ Some rest → bytes ≡ front ++ rest
after_front_found front bytes rest e = by (starts_with nat_eq bytes front) refl
  where
    by : (t : Bool) → starts_with nat_eq bytes front ≡ t → bytes ≡ front ++ rest
    by true f =
        let opened : Some (drop (length front) bytes) ≡ Some rest = sym (ap (λ t. if t then Some (drop (length front) bytes) else None) f) ∙ e in
        let is : drop (length front) bytes ≡ rest = cc in
        (front_starts front bytes).0 f ∙ ap (λ (xs : List ℕ). front ++ xs) is
    by false f = absurd (cc (ap (λ t. if t then Some (drop (length front) bytes) else None) f))

pub after_front_only : (front rest : List ℕ) → after_front front (front ++ rest) ≡ Some rest
after_front_only front rest =
    ap (λ t. if t then Some (drop (length front) (front ++ rest)) else None) ((front_starts front (front ++ rest)).1 rest refl) ∙ ap Some (drop_front front rest)

is_empty_is : (bs : List ℕ) → is_empty bs ≡ true → bs ≡ []
is_empty_is [] e = refl
is_empty_is (b ∷ bs) e = absurd (cc)

braces_found : (bytes : List ℕ) (ms : List Member) → in_braces bytes ≡ Some ms → (body : List ℕ) × (back : List ℕ) × (bytes ≡ body ++ 125 ∷ back) × AreMembers [] ms body × IsGap back
braces_found bytes ms e =
    let (c, cut, read) = bind_some (cut_of (125 ∷ []) bytes) (λ c. if is_empty (after_gap c.after) then members_of [] (pieces_of (59 ∷ 10 ∷ []) c.before) else None) ms e in
    let (spelled, mark, clean) = cut_found (125 ∷ []) bytes c cut in
    let (gap, at, is) = after_gap-front c.after in
    by c spelled mark gap at is (is_empty (after_gap c.after)) refl read
  where
    by : (c : Cut) → bytes ≡ c.before ++ c.mark ∷ c.after → is_mark (125 ∷ []) c.mark ≡ true → (gap : List ℕ) → c.after ≡ gap ++ after_gap c.after → IsGap gap → (t : Bool) → is_empty (after_gap c.after) ≡ t
        → (if is_empty (after_gap c.after) then members_of [] (pieces_of (59 ∷ 10 ∷ []) c.before) else None) ≡ Some ms → (body : List ℕ) × (back : List ℕ) × (bytes ≡ body ++ 125 ∷ back) × AreMembers [] ms body × IsGap back
    by c spelled mark gap at is true f read =
        let whole : gap ≡ c.after = sym (at ∙ ap (λ (xs : List ℕ). gap ++ xs) (is_empty_is (after_gap c.after) f) ∙ append-nil gap) in
        let opened : members_of [] (pieces_of (59 ∷ 10 ∷ []) c.before) ≡ Some ms = sym (ap (λ t. if t then members_of [] (pieces_of (59 ∷ 10 ∷ []) c.before) else None) f) ∙ read in (
          c.before,
          c.after,
          spelled ∙ ap (λ k. c.before ++ k ∷ c.after) (one_mark 125 c.mark mark),
          subst (AreMembers [] ms) (joined-pieces_of (59 ∷ 10 ∷ []) c.before) (members_found [] tt (pieces_of (59 ∷ 10 ∷ []) c.before) ms (pieces_are_cut (59 ∷ 10 ∷ []) c.before) opened),
          subst IsGap whole is,
        )
    by c spelled mark gap at is false f read = absurd (cc (ap (λ t. if t then members_of [] (pieces_of (59 ∷ 10 ∷ []) c.before) else None) f))

braces_only : (ms : List Member) (body back : List ℕ) → AreMembers [] ms body → IsGap back → in_braces (body ++ 125 ∷ back) ≡ Some ms
braces_only ms body back are gap =
    let nothing : after_gap back ≡ [] = ap after_gap (sym (append-nil back)) ∙ after_gap-append back [] gap in
    ap (λ (o : Option Cut). o >>= λ c. if is_empty (after_gap c.after) then members_of [] (pieces_of (59 ∷ 10 ∷ []) c.before) else None) (cut_of-mark (125 ∷ []) body 125 back (members_clean [] ms body are) refl)
    ∙ ap (λ (xs : List ℕ). if is_empty xs then members_of [] (pieces_of (59 ∷ 10 ∷ []) body) else None) nothing ∙ members_only [] ms body are

after_gap-spaces : (front rest : List ℕ) → IsSpaces front → after_gap (front ++ rest) ≡ after_gap rest
after_gap-spaces [] rest h = refl
after_gap-spaces (b ∷ front) rest h = ap (λ k. after_gap (k ∷ (front ++ rest))) h.0 ∙ after_gap-spaces front rest h.1

feed_found : (bs : List ℕ) → begins_with_line_feed bs ≡ true → (rest : List ℕ) × (bs ≡ 10 ∷ rest)
feed_found [] e = absurd (cc)
feed_found (b ∷ bs) e = (bs, ap (λ k. k ∷ bs) (equal_is b 10 e))

line_end_found : (bs : List ℕ) → begins_with_line_end bs ≡ true → (line_end : List ℕ) × (rest : List ℕ) × (bs ≡ line_end ++ rest) × IsLineEnd line_end
line_end_found [] e = absurd (cc)
line_end_found (b ∷ bs) e = by (b == 10) (b == 13) (begins_with_line_feed bs) refl refl refl
  where
    by : (s t u : Bool) → (b == 10) ≡ s → (b == 13) ≡ t → begins_with_line_feed bs ≡ u → (line_end : List ℕ) × (rest : List ℕ) × (b ∷ bs ≡ line_end ++ rest) × IsLineEnd line_end
    by true t u f g h = (10 ∷ [], bs, ap (λ k. k ∷ bs) (equal_is b 10 f), inl refl)
    by false true true f g h =
        let (rest, at) = feed_found bs h in
        (13 ∷ 10 ∷ [], rest, ap (λ k. k ∷ bs) (equal_is b 13 g) ∙ ap (λ (xs : List ℕ). 13 ∷ xs) at, inr refl)
    by false true false f g h = absurd (true≢false (sym e ∙ ap (λ s. s || ((b == 13) && begins_with_line_feed bs)) f ∙ ap (λ t. t && begins_with_line_feed bs) g ∙ h))
    by false false u f g h = absurd (true≢false (sym e ∙ ap (λ s. s || ((b == 13) && begins_with_line_feed bs)) f ∙ ap (λ t. t && begins_with_line_feed bs) g))

line_end_begins : (line_end rest : List ℕ) → IsLineEnd line_end → (after_spaces (line_end ++ rest) ≡ line_end ++ rest) × (begins_with_line_end (line_end ++ rest) ≡ true)
line_end_begins line_end rest (inl e) = subst (λ (xs : List ℕ). (after_spaces (xs ++ rest) ≡ xs ++ rest) × (begins_with_line_end (xs ++ rest) ≡ true)) (sym e) (refl, refl)
line_end_begins line_end rest (inr e) = subst (λ (xs : List ℕ). (after_spaces (xs ++ rest) ≡ xs ++ rest) × (begins_with_line_end (xs ++ rest) ≡ true)) (sym e) (refl, refl)

-- the object and what stands before it
pub record IsBelow (ms : List Member) (bytes : List ℕ) : Type 0 where
  pub spaces : List ℕ
  pub line_end : List ℕ
  pub first : List ℕ
  pub second : List ℕ
  pub body : List ℕ
  pub back : List ℕ
  pub spelled : bytes ≡ spaces ++ (line_end ++ (first ++ (codes "QtObject" ++ (second ++ 123 ∷ (body ++ 125 ∷ back)))))
  pub spaces_is : IsSpaces spaces
  pub line_end_is : IsLineEnd line_end
  pub first_is : IsGap first
  pub second_is : IsGap second
  pub body_is : AreMembers [] ms body
  pub back_is : IsGap back

abbrev named_of : List ℕ → Option (List Member)
named_of bytes = after_front (codes "QtObject") (after_gap bytes) >>= λ rest. after_front (codes "{") (after_gap rest) >>= in_braces

pub below_found : (bytes : List ℕ) (ms : List Member) → object_below bytes ≡ Some ms → IsBelow ms bytes
below_found bytes ms e = by (begins_with_line_end (after_spaces bytes)) refl
  where
    by : (t : Bool) → begins_with_line_end (after_spaces bytes) ≡ t → IsBelow ms bytes
    by true f =
        let (named, front, then_brace) = bind_some (after_front (codes "QtObject") (after_gap bytes)) (λ rest. after_front (codes "{") (after_gap rest) >>= in_braces) ms (sym (ap (λ t. if t then named_of bytes else None) f) ∙ e) in
        let (inside, brace, read) = bind_some (after_front (codes "{") (after_gap named)) in_braces ms then_brace in
        let (spaces, cut_1, spaces_is) = after_spaces-front bytes in
        let (line_end, rest, cut_2, line_end_is) = line_end_found (after_spaces bytes) f in
        let (first, cut_3, first_is) = after_gap-front rest in
        let (second, cut_4, second_is) = after_gap-front named in
        let (body, back, cut_5, body_is, back_is) = braces_found inside ms read in
        let whole : bytes ≡ spaces ++ (line_end ++ rest) = cut_1 ∙ ap (λ (xs : List ℕ). spaces ++ xs) cut_2 in
        let gap_is : after_gap rest ≡ codes "QtObject" ++ named =
        sym (ap after_gap whole ∙ after_gap-spaces spaces (line_end ++ rest) spaces_is ∙ blank_cut line_end rest (inr line_end_is)) ∙ after_front_found (codes "QtObject") (after_gap bytes) named front in
        record {
          spaces = spaces;
          line_end = line_end;
          first = first;
          second = second;
          body = body;
          back = back;
          spelled = whole ∙ ap (λ (xs : List ℕ). spaces ++ (line_end ++ xs)) (cut_3 ∙ ap (λ (xs : List ℕ). first ++ xs) (gap_is ∙ ap (λ (xs : List ℕ). codes "QtObject" ++ xs) (cut_4 ∙ ap (λ (xs : List ℕ). second ++ xs) (after_front_found (codes "{") (after_gap named) inside brace ∙ ap (λ (xs : List ℕ). 123 ∷ xs) cut_5))));
          spaces_is = spaces_is;
          line_end_is = line_end_is;
          first_is = first_is;
          second_is = second_is;
          body_is = body_is;
          back_is = back_is;
        }
    by false f = absurd (cc (ap (λ t. if t then named_of bytes else None) f))

below_only : (spaces line_end first second body back : List ℕ) (ms : List Member) → IsSpaces spaces → IsLineEnd line_end → IsGap first → IsGap second → AreMembers [] ms body → IsGap back
    → object_below (spaces ++ (line_end ++ (first ++ (codes "QtObject" ++ (second ++ 123 ∷ (body ++ 125 ∷ back)))))) ≡ Some ms
below_only spaces line_end first second body back ms s l f g b k =
    let inside : List ℕ = body ++ 125 ∷ back in
    let named : List ℕ = second ++ 123 ∷ inside in
    let rest : List ℕ = first ++ (codes "QtObject" ++ named) in
    let bytes : List ℕ = spaces ++ (line_end ++ rest) in
    let begins : begins_with_line_end (after_spaces bytes) ≡ true =
    ap begins_with_line_end (after_spaces-append spaces (line_end ++ rest) s ∙ (line_end_begins line_end rest l).0) ∙ (line_end_begins line_end rest l).1 in
    let gap : after_gap bytes ≡ codes "QtObject" ++ named = after_gap-spaces spaces (line_end ++ rest) s ∙ blank_cut line_end rest (inr l) ∙ after_gap-append first (codes "QtObject" ++ named) f in
    let brace : after_gap named ≡ codes "{" ++ inside = after_gap-append second (123 ∷ inside) g in
    ap (λ t. if t then named_of bytes else None) begins
    ∙ ap (λ (xs : List ℕ). after_front (codes "QtObject") xs >>= λ rest. after_front (codes "{") (after_gap rest) >>= in_braces) gap
    ∙ ap (λ (o : Option (List ℕ)). o >>= λ rest. after_front (codes "{") (after_gap rest) >>= in_braces) (after_front_only (codes "QtObject") named)
    ∙ ap (λ (xs : List ℕ). after_front (codes "{") xs >>= in_braces) brace
    ∙ ap (λ (o : Option (List ℕ)). o >>= in_braces) (after_front_only (codes "{") inside)
    ∙ braces_only ms body back b k

-- ---- documents
abbrev read_of : List ℕ → Option (List Member)
read_of bytes = after_front (codes "import QtQml 2.15") bytes >>= object_below

pub document_found : (bytes : List ℕ) (members : List Member) → program_of bytes ≡ Some members → IsDocument members bytes
unfolding program_of
document_found bytes members e = by (nat_le (length bytes) 4194304) refl
  where
    by : (t : Bool) → nat_le (length bytes) 4194304 ≡ t → IsDocument members bytes
    by true f =
        let few : length bytes ≤ 4194304 = grind (arith, nat_tests) in
        let (rest, head, read) = bind_some (after_front (codes "import QtQml 2.15") bytes) object_below members (sym (ap (λ t. if t then read_of bytes else None) f) ∙ e) in
        let below = below_found rest members read in
        record {
          spaces = below.spaces;
          line_end = below.line_end;
          first = below.first;
          second = below.second;
          body = below.body;
          last = below.back;
          few = few;
          spelled = after_front_found (codes "import QtQml 2.15") bytes rest head ∙ ap (λ (xs : List ℕ). codes "import QtQml 2.15" ++ xs) below.spelled;
          spaces_is = below.spaces_is;
          line_end_is = below.line_end_is;
          first_is = below.first_is;
          second_is = below.second_is;
          body_is = below.body_is;
          last_is = below.back_is;
        }
    by false f = absurd (cc (ap (λ t. if t then read_of bytes else None) f))

pub document_only : (bytes : List ℕ) (members : List Member) → IsDocument members bytes → program_of bytes ≡ Some members
unfolding program_of
document_only bytes members is =
    let few : nat_le (length bytes) 4194304 ≡ true = let le = is.few in grind (arith, nat_tests) in
    let rest : List ℕ = is.spaces ++ (is.line_end ++ (is.first ++ (codes "QtObject" ++ (is.second ++ 123 ∷ (is.body ++ 125 ∷ is.last))))) in
    ap (λ t. if t then read_of bytes else None) few
    ∙ ap read_of is.spelled
    ∙ ap (λ (o : Option (List ℕ)). o >>= object_below) (after_front_only (codes "import QtQml 2.15") rest)
    ∙ below_only is.spaces is.line_end is.first is.second is.body is.last members is.spaces_is is.line_end_is is.first_is is.second_is is.body_is is.last_is
