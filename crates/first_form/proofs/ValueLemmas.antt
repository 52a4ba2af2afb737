-- A value is read exactly where it is spelled.
use Rattle.std.proofs.Common.{◌≡◌, ◌≢◌, ◌∙◌, ap, sym, refl, subst, ℕ, suc, zero, ◌+◌, ◌<◌, ◌≤◌, ◌==◌, arith, nat_lt, Bool, true, false, inl, inr, ℤ, pos, neg_ℤ, List, [], ◌∷◌, ◌++◌, length, slice_get, None, Some, if◌then◌else◌, count_by}
use Rattle.std.specs.declared.option.Option.{Option}
use Rattle.std.specs.Option.{option_map}
use Rattle.std.specs.Str.{all_ascii_digits}
use Rattle.std.proofs.lemmas.Bool.Decides.{nat_tests}
use Rattle.std.proofs.lemmas.Grind.{common_steps}
use Rattle.qml_model.specs.declared.content.Factor.{Factor}
use Rattle.qml_model.specs.declared.content.Factor.TheVariants.{Num, Cell}
use Rattle.qml_model.specs.declared.content.Product.{Product}
use Rattle.qml_model.specs.declared.content.Content.{Content}
use Rattle.qml_model.specs.declared.content.Content.TheVariants.{Plain, Sum}
use Rattle.first_form.specs.Blanks.{◌>>=◌, is_spaces, after_spaces, word_of, behind_word, lone_word}
use Rattle.first_form.specs.DocumentForm.{IsOperand, IsProduct, sign_of, AreProducts, IsSum, operands, IsPlain, IsValue}
use Rattle.first_form.specs.Forms.{IsSpaces, IsPadded, IsNumber}
use Rattle.first_form.specs.Names.{is_name, cell_of}
use Rattle.first_form.specs.Numbers.{number_of}
use Rattle.first_form.specs.Pieces.{is_mark, Pieces, last, piece, pieces_of}
use Rattle.first_form.specs.Values.{or_cell, factor_named, operand_of, factors_of, product_of, products_of, sum_of, number_in, negative_in, first_of, plain_of, content_of}
use Rattle.first_form.proofs.FormLemmas.{IsWord, lone_found, lone_only, equal_is, after_spaces-append, after_spaces-front}
use Rattle.first_form.proofs.MarkLemmas.{one_mark, over, Over, Over-append, Over-more, over_clean, joined, AreCut, joined-pieces_of, pieces_are_cut, pieces_of-mark, pieces_of-clean, count_by-clean, count_by-append, count_by-mark}
use Rattle.first_form.proofs.NameLemmas.{cell_found, cell_only, name_word, name_over, name_some, number_word, number_over, name_no_digits}
use Rattle.first_form.proofs.NumberLemmas.{number_found, number_only, number_digits, number_some}

-- all names that are declared are names
abbrev pub AreNames : List (List ℕ) → Type 0
AreNames [] = Unit {0}
AreNames (name ∷ names) = (is_name name ≡ true) × AreNames names

name_of : (names : List (List ℕ)) (c : ℕ) (w : List ℕ) → AreNames names → slice_get names c ≡ Some w → is_name w ≡ true
name_of [] c w are e = absurd (cc)
name_of (name ∷ names) zero w are e = let is : name ≡ w = cc in ap is_name (sym is) ∙ are.0
name_of (name ∷ names) (suc c) w are e = name_of names c w are.1 e

pub AreNames-snoc : (names : List (List ℕ)) (name : List ℕ) → AreNames names → is_name name ≡ true → AreNames (names ++ name ∷ [])
AreNames-snoc [] name are is = (is, tt)
AreNames-snoc (x ∷ names) name are is = (are.0, AreNames-snoc names name are.1 is)

pub bind_some : {A B : Type 0} (o : Option A) (f : A → Option B) (y : B) → (o >>= f) ≡ Some y → (x : A) × (o ≡ Some x) × (f x ≡ Some y)
bind_some None f y e = absurd (cc)
bind_some (Some x) f y e = (x, refl, e)

pub map_some : {A B : Type 0} (o : Option A) (f : A → B) (y : B) → option_map f o ≡ Some y → (x : A) × (o ≡ Some x) × (f x ≡ y)
map_some None f y e = absurd (cc)
map_some (Some x) f y e = (x, refl, cc)

-- ---- operands
factor_found : (names : List (List ℕ)) → AreNames names → (w : List ℕ) (f : Factor) → factor_named names w ≡ Some f → IsOperand names f w
unfolding factor_named
factor_found names are w f e = by (number_of w) (cell_of names w) refl refl e
  where
    by : (n c : Option ℕ) → number_of w ≡ n → cell_of names w ≡ c → or_cell n c ≡ Some f → IsOperand names f w
    by (Some n) c g h e = let is : Num (pos n) ≡ f = cc in subst (λ f. IsOperand names f w) is (n, refl, number_found n w g)
    by None (Some c) g h e = let is : Cell c ≡ f = cc in subst (λ f. IsOperand names f w) is (let at = cell_found names w c h in (name_of names c w are at.0, at))
    by None None g h e = absurd (cc)

name_none : (w : List ℕ) → is_name w ≡ true → number_of w ≡ None
name_none w named = by (number_of w) refl
  where
    by : (o : Option ℕ) → number_of w ≡ o → number_of w ≡ None
    by None e = e
    by (Some n) e = absurd (name_no_digits w named (number_digits n w e))

factor_only : (names : List (List ℕ)) (w : List ℕ) (f : Factor) → IsOperand names f w → factor_named names w ≡ Some f
unfolding factor_named
factor_only names w (Num z) (n, is, at) = ap (λ o. or_cell o (cell_of names w)) (number_only n w at) ∙ ap (λ k. Some (Num k)) (sym is)
factor_only names w (Cell c) (named, at) = ap (λ o. or_cell o (cell_of names w)) (name_none w named) ∙ ap (or_cell None) (cell_only names w c at)

operand_word : (names : List (List ℕ)) (w : List ℕ) (f : Factor) → IsOperand names f w → IsWord w × (w ≢ []) × Over [] w
operand_word names w (Num z) (n, is, at) =
    let digits : all_ascii_digits w ≡ true = number_digits n w (number_only n w at) in (number_word w digits, number_some n w (number_only n w at), number_over w digits)
operand_word names w (Cell c) (named, at) = (name_word w named, name_some w named, name_over w named)

operand_found : (names : List (List ℕ)) → AreNames names → (bytes : List ℕ) (f : Factor) → operand_of names bytes ≡ Some f → IsPadded (IsOperand names f) bytes
operand_found names are bytes f e =
    let (w, lone, named) = bind_some (lone_word bytes) (factor_named names) f e in
    let (front, text, back, spelled, before, same, behind) = lone_found bytes w lone in
    (front, text, back, spelled, before, subst (IsOperand names f) (sym same) (factor_found names are w f named), behind)

operand_only : (names : List (List ℕ)) (bytes : List ℕ) (f : Factor) → IsPadded (IsOperand names f) bytes → operand_of names bytes ≡ Some f
operand_only names bytes f (front, text, back, spelled, before, is, behind) =
    let (word, some, tame) = operand_word names text f is in
    ap (λ (o : Option (List ℕ)). o >>= factor_named names) (ap lone_word spelled ∙ lone_only front text back before word some behind) ∙ factor_only names text f is

pub spaces_over : (bs : List ℕ) → IsSpaces bs → Over [] bs
spaces_over [] h = tt
spaces_over (b ∷ bs) (e, h) = (subst (λ x. over [] x ≡ true) (sym e) refl, spaces_over bs h)

padded_over : (P : List ℕ → Type 0) → ((w : List ℕ) → P w → Over [] w) → (bytes : List ℕ) → IsPadded P bytes → Over [] bytes
padded_over P tame bytes (front, text, back, spelled, before, is, behind) =
    subst (Over []) (sym spelled) (Over-append [] front (text ++ back) (spaces_over front before) (Over-append [] text back (tame text is) (spaces_over back behind)))

operand_over : (names : List (List ℕ)) (f : Factor) (bytes : List ℕ) → IsPadded (IsOperand names f) bytes → Over [] bytes
operand_over names f bytes is = padded_over (IsOperand names f) (λ w h. (operand_word names w f h).2) bytes is

-- ---- products
pub wider : (more : List ℕ) (a : List ℕ) → Over [] a → Over more a
wider more a h = Over-more [] more (λ b e. absurd (cc)) a h

product_over : (names : List (List ℕ)) (fs : List Factor) (bytes : List ℕ) → IsProduct names fs bytes → Over (42 ∷ []) bytes
product_over names [] bytes is = absurd is
product_over names (f ∷ []) bytes is = wider (42 ∷ []) bytes (operand_over names f bytes is)
product_over names (f ∷ g ∷ fs) bytes (left, right, spelled, is, rest) =
    subst (Over (42 ∷ [])) (sym spelled) (Over-append (42 ∷ []) left (42 ∷ right) (wider (42 ∷ []) left (operand_over names f left is)) (refl, product_over names (g ∷ fs) right rest))

factors_only : (names : List (List ℕ)) (fs : List Factor) (bytes : List ℕ) → IsProduct names fs bytes → factors_of names (pieces_of (42 ∷ []) bytes) ≡ Some fs
factors_only names [] bytes is = absurd is
factors_only names (f ∷ []) bytes is =
    ap (factors_of names) (pieces_of-clean (42 ∷ []) bytes (over_clean [] (42 ∷ []) refl bytes (operand_over names f bytes is)))
    ∙ ap (option_map (λ f. f ∷ [])) (operand_only names bytes f is)
factors_only names (f ∷ g ∷ fs) bytes (left, right, spelled, is, rest) =
    ap (λ (xs : List ℕ). factors_of names (pieces_of (42 ∷ []) xs)) spelled
    ∙ ap (factors_of names) (pieces_of-mark (42 ∷ []) left 42 right (over_clean [] (42 ∷ []) refl left (operand_over names f left is)) refl)
    ∙ ap (λ (o : Option Factor). o >>= λ h. option_map (λ hs. h ∷ hs) (factors_of names (pieces_of (42 ∷ []) right))) (operand_only names left f is)
    ∙ ap (option_map (λ hs. f ∷ hs)) (factors_only names (g ∷ fs) right rest)

factors_found : (names : List (List ℕ)) → AreNames names → (ps : Pieces) (fs : List Factor) → AreCut (42 ∷ []) ps → factors_of names ps ≡ Some fs → IsProduct names fs (joined ps)
factors_found names are (last bytes) fs cut e =
    let (f, is, same) = map_some (operand_of names bytes) (λ f. f ∷ []) fs e in
    subst (λ (xs : List Factor). IsProduct names xs bytes) same (operand_found names are bytes f is)
factors_found names are (piece bytes mark rest) fs (marked, clean, cut) e =
    let (f, is, more) = bind_some (operand_of names bytes) (λ f. option_map (λ fs. f ∷ fs) (factors_of names rest)) fs e in
    let (gs, others, same) = map_some (factors_of names rest) (λ gs. f ∷ gs) fs more in
    let at : mark ≡ 42 = one_mark 42 mark marked in
    subst (λ (xs : List Factor). IsProduct names xs (bytes ++ mark ∷ joined rest)) same
    (longer f gs (operand_found names are bytes f is) (ap (λ k. bytes ++ k ∷ joined rest) at) (factors_found names are rest gs cut others))
  where
    longer : (f : Factor) (gs : List Factor) → IsPadded (IsOperand names f) bytes → bytes ++ mark ∷ joined rest ≡ bytes ++ 42 ∷ joined rest → IsProduct names gs (joined rest) → IsProduct names (f ∷ gs) (bytes ++ mark ∷ joined rest)
    longer f [] is at h = absurd h
    longer f (g ∷ gs) is at h = (bytes, joined rest, at, is, h)

product_found : (names : List (List ℕ)) → AreNames names → (minus : Bool) (bytes : List ℕ) (p : Product) → product_of names minus bytes ≡ Some p → (p.minus ≡ minus) × IsProduct names p.factors bytes
product_found names are minus bytes p e =
    let (fs, is, same) = map_some (factors_of names (pieces_of (42 ∷ []) bytes)) (λ fs. record { minus = minus; factors = fs }) p e in (
      ap (λ (p : Product). p.minus) (sym same),
      subst (λ (p : Product). IsProduct names p.factors bytes) same (subst (IsProduct names fs) (joined-pieces_of (42 ∷ []) bytes) (factors_found names are (pieces_of (42 ∷ []) bytes) fs (pieces_are_cut (42 ∷ []) bytes) is)),
    )

product_only : (names : List (List ℕ)) (p : Product) (bytes : List ℕ) → IsProduct names p.factors bytes → product_of names p.minus bytes ≡ Some p
product_only names p bytes is = ap (option_map (λ fs. record { minus = p.minus; factors = fs })) (factors_only names p.factors bytes is)

-- ---- sums
sign_mark : (mark : ℕ) → is_mark (43 ∷ 45 ∷ []) mark ≡ true → mark ≡ sign_of (mark == 45)
sign_mark mark e = by (43 == mark) (45 == mark) refl refl
  where
    by : (a b : Bool) → (43 == mark) ≡ a → (45 == mark) ≡ b → mark ≡ sign_of (mark == 45)
    by true b f g = let at : 43 ≡ mark = equal_is 43 mark f in subst (λ m. m ≡ sign_of (m == 45)) at refl
    by false true f g = let at : 45 ≡ mark = equal_is 45 mark g in subst (λ m. m ≡ sign_of (m == 45)) at refl
    by false false f g = absurd (cc)

sign_is_mark : (minus : Bool) → is_mark (43 ∷ 45 ∷ []) (sign_of minus) ≡ true
sign_is_mark true = refl
sign_is_mark false = refl

sign_is : (minus : Bool) → (sign_of minus == 45) ≡ minus
sign_is true = refl
sign_is false = refl

products_only : (names : List (List ℕ)) (p : Product) (ps : List Product) (bytes : List ℕ) → AreProducts names (p ∷ ps) bytes → products_of names p.minus (pieces_of (43 ∷ 45 ∷ []) bytes) ≡ Some (p ∷ ps)
products_only names p [] bytes is =
    ap (products_of names p.minus) (pieces_of-clean (43 ∷ 45 ∷ []) bytes (over_clean (42 ∷ []) (43 ∷ 45 ∷ []) refl bytes (product_over names p.factors bytes is)))
    ∙ ap (option_map (λ p. p ∷ [])) (product_only names p bytes is)
products_only names p (q ∷ ps) bytes (left, right, spelled, is, rest) =
    ap (λ (xs : List ℕ). products_of names p.minus (pieces_of (43 ∷ 45 ∷ []) xs)) spelled
    ∙ ap (products_of names p.minus) (pieces_of-mark (43 ∷ 45 ∷ []) left (sign_of q.minus) right (over_clean (42 ∷ []) (43 ∷ 45 ∷ []) refl left (product_over names p.factors left is)) (sign_is_mark q.minus))
    ∙ ap (λ (o : Option Product). o >>= λ p. option_map (λ ps. p ∷ ps) (products_of names (sign_of q.minus == 45) (pieces_of (43 ∷ 45 ∷ []) right))) (product_only names p left is)
    ∙ ap (λ t. option_map (λ ps. p ∷ ps) (products_of names t (pieces_of (43 ∷ 45 ∷ []) right))) (sign_is q.minus)
    ∙ ap (option_map (λ ps. p ∷ ps)) (products_only names q ps right rest)

-- the first is subtracted as told
abbrev Begins : Bool → List Product → Type 0
Begins minus [] = ⊥
Begins minus (p ∷ ps) = p.minus ≡ minus

products_found : (names : List (List ℕ)) → AreNames names → (minus : Bool) (ps : Pieces) (qs : List Product) → AreCut (43 ∷ 45 ∷ []) ps → products_of names minus ps ≡ Some qs → Begins minus qs × AreProducts names qs (joined ps)
products_found names are minus (last bytes) qs cut e =
    let (p, is, same) = map_some (product_of names minus bytes) (λ p. p ∷ []) qs e in
    subst (λ (xs : List Product). Begins minus xs × AreProducts names xs bytes) same (product_found names are minus bytes p is)
products_found names are minus (piece bytes mark rest) qs (marked, clean, cut) e =
    let (p, is, more) = bind_some (product_of names minus bytes) (λ p. option_map (λ ps. p ∷ ps) (products_of names (mark == 45) rest)) qs e in
    let (ps, others, same) = map_some (products_of names (mark == 45) rest) (λ ps. p ∷ ps) qs more in
    let at = product_found names are minus bytes p is in
    let after = products_found names are (mark == 45) rest ps cut others in
    subst (λ (xs : List Product). Begins minus xs × AreProducts names xs (bytes ++ mark ∷ joined rest)) same
    (at.0, longer p ps at.1 after.0 after.1)
  where
    longer : (p : Product) (ps : List Product) → IsProduct names p.factors bytes → Begins (mark == 45) ps → AreProducts names ps (joined rest) → AreProducts names (p ∷ ps) (bytes ++ mark ∷ joined rest)
    longer p [] is b h = absurd b
    longer p (q ∷ ps) is b h = (bytes, joined rest, ap (λ k. bytes ++ k ∷ joined rest) (sign_mark mark marked ∙ ap sign_of (sym b)), is, h)

-- ---- how many operands there are
abbrev operators : List ℕ → ℕ
operators bytes = count_by (is_mark (43 ∷ 45 ∷ 42 ∷ [])) bytes

no_operators : (bytes : List ℕ) → Over [] bytes → operators bytes ≡ 0
no_operators bytes h = count_by-clean (43 ∷ 45 ∷ 42 ∷ []) bytes (over_clean [] (43 ∷ 45 ∷ 42 ∷ []) refl bytes h)

operators-mark : (left : List ℕ) (mark : ℕ) (right : List ℕ) → is_mark (43 ∷ 45 ∷ 42 ∷ []) mark ≡ true → operators (left ++ mark ∷ right) ≡ operators left + (1 + operators right)
operators-mark left mark right e = count_by-append (is_mark (43 ∷ 45 ∷ 42 ∷ [])) left (mark ∷ right) ∙ ap (λ n. operators left + n) (count_by-mark (is_mark (43 ∷ 45 ∷ 42 ∷ [])) mark right e)

product_count : (names : List (List ℕ)) (fs : List Factor) (bytes : List ℕ) → IsProduct names fs bytes → operators bytes + 1 ≡ length fs
product_count names [] bytes is = absurd is
product_count names (f ∷ []) bytes is = ap (λ n. n + 1) (no_operators bytes (operand_over names f bytes is))
product_count names (f ∷ g ∷ fs) bytes (left, right, spelled, is, rest) =
    let none : operators left ≡ 0 = no_operators left (operand_over names f left is) in
    let more : operators right + 1 ≡ length (g ∷ fs) = product_count names (g ∷ fs) right rest in
    let all : operators bytes ≡ operators left + (1 + operators right) = ap operators spelled ∙ operators-mark left 42 right refl in
    omega arith

operands-cons : (p : Product) (ps : List Product) → operands (p ∷ ps) ≡ length p.factors + operands ps
operands-cons p ps = grind (arith, common_steps)

operands-nil : operands [] ≡ 0
operands-nil = refl

sign_counts : (minus : Bool) → is_mark (43 ∷ 45 ∷ 42 ∷ []) (sign_of minus) ≡ true
sign_counts true = refl
sign_counts false = refl

products_count : (names : List (List ℕ)) (p : Product) (ps : List Product) (bytes : List ℕ) → AreProducts names (p ∷ ps) bytes → operators bytes + 1 ≡ operands (p ∷ ps)
products_count names p [] bytes is =
    let one : operators bytes + 1 ≡ length p.factors = product_count names p.factors bytes is in
    let all : operands (p ∷ []) ≡ length p.factors + operands [] = operands-cons p [] in
    let none : operands [] ≡ 0 = operands-nil in
    omega arith
products_count names p (q ∷ ps) bytes (left, right, spelled, is, rest) =
    let one : operators left + 1 ≡ length p.factors = product_count names p.factors left is in
    let more : operators right + 1 ≡ operands (q ∷ ps) = products_count names q ps right rest in
    let all : operators bytes ≡ operators left + (1 + operators right) = ap operators spelled ∙ operators-mark left (sign_of q.minus) right (sign_counts q.minus) in
    let whole : operands (p ∷ q ∷ ps) ≡ length p.factors + operands (q ∷ ps) = operands-cons p (q ∷ ps) in
    omega arith

sum_found : (names : List (List ℕ)) → AreNames names → (bytes : List ℕ) (ps : List Product) → sum_of names bytes ≡ Some ps → IsSum names ps bytes × (operands ps ≤ 1000)
sum_found names are bytes ps e = by (nat_lt (operators bytes) 1000) refl
  where
    few : (ps : List Product) → operators bytes < 1000 → Begins false ps × AreProducts names ps bytes → IsSum names ps bytes × (operands ps ≤ 1000)
    few [] h (b, is) = absurd b
    few (p ∷ ps) h (b, is) = ((b, is), let all : operators bytes + 1 ≡ operands (p ∷ ps) = products_count names p ps bytes is in omega arith)

    by : (t : Bool) → nat_lt (operators bytes) 1000 ≡ t → IsSum names ps bytes × (operands ps ≤ 1000)
    by true f =
        let below : operators bytes < 1000 = grind (arith, nat_tests) in
        let read : products_of names false (pieces_of (43 ∷ 45 ∷ []) bytes) ≡ Some ps = sym (ap (λ t. if t then products_of names false (pieces_of (43 ∷ 45 ∷ []) bytes) else None) f) ∙ e in
        few ps below (subst (λ (xs : List ℕ). Begins false ps × AreProducts names ps xs) (joined-pieces_of (43 ∷ 45 ∷ []) bytes)
        (products_found names are false (pieces_of (43 ∷ 45 ∷ []) bytes) ps (pieces_are_cut (43 ∷ 45 ∷ []) bytes) read))
    by false f = absurd (cc (ap (λ t. if t then products_of names false (pieces_of (43 ∷ 45 ∷ []) bytes) else None) f))

sum_only : (names : List (List ℕ)) (ps : List Product) (bytes : List ℕ) → IsSum names ps bytes → operands ps ≤ 1000 → sum_of names bytes ≡ Some ps
sum_only names [] bytes is few = absurd is
sum_only names (p ∷ ps) bytes (b, is) few =
    let all : operators bytes + 1 ≡ operands (p ∷ ps) = products_count names p ps bytes is in
    let below : nat_lt (operators bytes) 1000 ≡ true = let under : operators bytes < 1000 = omega arith in grind (arith, nat_tests) in
    ap (λ t. if t then products_of names false (pieces_of (43 ∷ 45 ∷ []) bytes) else None) below
    ∙ ap (λ t. products_of names t (pieces_of (43 ∷ 45 ∷ []) bytes)) (sym b) ∙ products_only names p ps bytes is

-- ---- numbers with a sign
number_in_found : (n : ℕ) (bytes : List ℕ) → number_in bytes ≡ Some n → IsPadded (IsNumber n) bytes
number_in_found n bytes e =
    let (w, lone, is) = bind_some (lone_word bytes) number_of n e in
    let (front, text, back, spelled, before, same, behind) = lone_found bytes w lone in
    (front, text, back, spelled, before, subst (IsNumber n) (sym same) (number_found n w is), behind)

number_in_only : (n : ℕ) (bytes : List ℕ) → IsPadded (IsNumber n) bytes → number_in bytes ≡ Some n
number_in_only n bytes (front, text, back, spelled, before, is, behind) =
    let read : number_of text ≡ Some n = number_only n text is in
    ap (λ (o : Option (List ℕ)). o >>= number_of) (ap lone_word spelled ∙ lone_only front text back before (number_word text (number_digits n text read)) (number_some n text read) behind) ∙ read

number_tame : (n : ℕ) (bytes : List ℕ) → IsPadded (IsNumber n) bytes → Over [] bytes
number_tame n bytes is = padded_over (IsNumber n) (λ w h. number_over w (number_digits n w (number_only n w h))) bytes is

minus_none : (w : List ℕ) → number_of (45 ∷ w) ≡ None
minus_none w = by (number_of (45 ∷ w)) refl
  where
    by : (o : Option ℕ) → number_of (45 ∷ w) ≡ o → number_of (45 ∷ w) ≡ None
    by None e = e
    by (Some n) e = absurd (cc (number_digits n (45 ∷ w) e))

minus_alone : (rest : List ℕ) (t : Bool) → ((if t then Some (45 ∷ word_of rest) else None) >>= number_of) ≡ None
minus_alone rest true = minus_none (word_of rest)
minus_alone rest false = refl

minus_in : (bytes rest : List ℕ) → after_spaces bytes ≡ 45 ∷ rest → number_in bytes ≡ None
minus_in bytes rest e =
    ap (λ (xs : List ℕ). (if is_spaces (behind_word xs) then Some (word_of xs) else None) >>= number_of) e ∙ minus_alone rest (is_spaces (behind_word rest))

negative_found : (bytes rest : List ℕ) (z : ℤ) → after_spaces bytes ≡ rest → negative_in rest ≡ Some z → IsPlain z bytes
negative_found bytes [] z at e = absurd (cc)
negative_found bytes (b ∷ bs) z at e = by (b == 45) refl
  where
    by : (t : Bool) → (b == 45) ≡ t → IsPlain z bytes
    by true f =
        let (n, is, same) = map_some (number_in bs) (λ n. neg_ℤ (pos n)) z (sym (ap (λ t. if t then option_map (λ n. neg_ℤ (pos n)) (number_in bs) else None) f) ∙ e) in
        let (front, spelled, spaces) = after_spaces-front bytes in
        inr (n, sym same, front, bs, spelled ∙ ap (λ (xs : List ℕ). front ++ xs) (at ∙ ap (λ k. k ∷ bs) (equal_is b 45 f)), spaces, number_in_found n bs is)
    by false f = absurd (cc (ap (λ t. if t then option_map (λ n. neg_ℤ (pos n)) (number_in bs) else None) f))

plain_found : (z : ℤ) (bytes : List ℕ) → plain_of bytes ≡ Some z → IsPlain z bytes
plain_found z bytes e = by (number_in bytes) refl e
  where
    by : (o : Option ℕ) → number_in bytes ≡ o → first_of (option_map pos o) (negative_in (after_spaces bytes)) ≡ Some z → IsPlain z bytes
    by (Some n) f e = inl (n, cc, number_in_found n bytes f)
    by None f e = negative_found bytes (after_spaces bytes) z refl e

plain_only : (z : ℤ) (bytes : List ℕ) → IsPlain z bytes → plain_of bytes ≡ Some z
plain_only z bytes (inl (n, is, at)) = ap (λ (o : Option ℕ). first_of (option_map pos o) (negative_in (after_spaces bytes))) (number_in_only n bytes at) ∙ ap Some (sym is)
plain_only z bytes (inr (n, is, front, rest, spelled, spaces, at)) =
    let behind : after_spaces bytes ≡ 45 ∷ rest = ap after_spaces spelled ∙ after_spaces-append front (45 ∷ rest) spaces in
    ap (λ (o : Option ℕ). first_of (option_map pos o) (negative_in (after_spaces bytes))) (minus_in bytes rest behind)
    ∙ ap negative_in behind ∙ ap (option_map (λ n. neg_ℤ (pos n))) (number_in_only n rest at) ∙ ap Some (sym is)

-- ---- values
pub value_found : (names : List (List ℕ)) → AreNames names → (bytes : List ℕ) (content : Content) → content_of names bytes ≡ Some content → IsValue names content bytes
unfolding content_of
value_found names are bytes content e = by (plain_of bytes) refl e
  where
    by : (o : Option ℤ) → plain_of bytes ≡ o → first_of (option_map Plain o) (option_map Sum (sum_of names bytes)) ≡ Some content → IsValue names content bytes
    by (Some z) f e = let is : Plain z ≡ content = cc in subst (λ c. IsValue names c bytes) is (plain_found z bytes f)
    by None f e =
        let (ps, is, same) = map_some (sum_of names bytes) Sum content e in
        let sum = sum_found names are bytes ps is in
        subst (λ c. IsValue names c bytes) same (sum.0, sum.1, λ z p. cc (plain_only z bytes p))

pub value_only : (names : List (List ℕ)) (content : Content) (bytes : List ℕ) → IsValue names content bytes → content_of names bytes ≡ Some content
unfolding content_of
value_only names (Plain z) bytes is = ap (λ (o : Option ℤ). first_of (option_map Plain o) (option_map Sum (sum_of names bytes))) (plain_only z bytes is)
value_only names (Sum ps) bytes (is, few, never) = by (plain_of bytes) refl
  where
    by : (o : Option ℤ) → plain_of bytes ≡ o → first_of (option_map Plain (plain_of bytes)) (option_map Sum (sum_of names bytes)) ≡ Some (Sum ps)
    by (Some z) f = absurd (never z (plain_found z bytes f))
    by None f = ap (λ (o : Option ℤ). first_of (option_map Plain o) (option_map Sum (sum_of names bytes))) f ∙ ap (option_map Sum) (sum_only names ps bytes is few)

-- ---- of what bytes a value is
stars : (b : ℕ) → is_mark (42 ∷ []) b ≡ true → is_mark (43 ∷ 45 ∷ 42 ∷ []) b ≡ true
stars b e = let at : b ≡ 42 = one_mark 42 b e in subst (λ m. is_mark (43 ∷ 45 ∷ 42 ∷ []) m ≡ true) (sym at) refl

sign_over : (minus : Bool) → over (43 ∷ 45 ∷ 42 ∷ []) (sign_of minus) ≡ true
sign_over true = refl
sign_over false = refl

products_over : (names : List (List ℕ)) (ps : List Product) (bytes : List ℕ) → AreProducts names ps bytes → Over (43 ∷ 45 ∷ 42 ∷ []) bytes
products_over names [] bytes is = absurd is
products_over names (p ∷ []) bytes is = Over-more (42 ∷ []) (43 ∷ 45 ∷ 42 ∷ []) stars bytes (product_over names p.factors bytes is)
products_over names (p ∷ q ∷ ps) bytes (left, right, spelled, is, rest) =
    subst (Over (43 ∷ 45 ∷ 42 ∷ [])) (sym spelled)
    (Over-append (43 ∷ 45 ∷ 42 ∷ []) left (sign_of q.minus ∷ right) (Over-more (42 ∷ []) (43 ∷ 45 ∷ 42 ∷ []) stars left (product_over names p.factors left is))
    (sign_over q.minus, products_over names (q ∷ ps) right rest))

pub value_over : (names : List (List ℕ)) (content : Content) (bytes : List ℕ) → IsValue names content bytes → Over (43 ∷ 45 ∷ 42 ∷ []) bytes
value_over names (Plain z) bytes (inl (n, is, at)) = wider (43 ∷ 45 ∷ 42 ∷ []) bytes (number_tame n bytes at)
value_over names (Plain z) bytes (inr (n, is, front, rest, spelled, spaces, at)) =
    subst (Over (43 ∷ 45 ∷ 42 ∷ [])) (sym spelled)
    (Over-append (43 ∷ 45 ∷ 42 ∷ []) front (45 ∷ rest) (wider (43 ∷ 45 ∷ 42 ∷ []) front (spaces_over front spaces)) (refl, wider (43 ∷ 45 ∷ 42 ∷ []) rest (number_tame n rest at)))
value_over names (Sum []) bytes (is, few, never) = absurd is
value_over names (Sum (p ∷ ps)) bytes (is, few, never) = products_over names (p ∷ ps) bytes is.1
