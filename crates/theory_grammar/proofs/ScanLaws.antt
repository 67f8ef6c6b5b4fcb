-- The bytes of a line are read in at most one way.
use Rattle.std.proofs.Common.{◌≡◌, inl, inr, ⊎_elim, ℕ, ◌+◌, true, ◌||◌, ◌==◌, List, [], ◌∷◌, ◌++◌, length, Some, refl, sym, ap, ◌∙◌, subst, arith}
use Rattle.std.proofs.lemmas.Bool.{false≢true, or_cases, eqb-true}
use Rattle.std.proofs.lemmas.List.{append-nil}
use Rattle.theory_meaning.specs.declared.words.Rel.{Rel}
use Rattle.theory_meaning.specs.Identifier.{is_word_byte, is_word}
use Rattle.theory_grammar.specs.declared.words.Mark.{Mark}
use Rattle.theory_grammar.specs.declared.unreadable.Unreadable.{Unreadable}
use Rattle.theory_grammar.specs.declared.unreadable.Unreadable.TheVariants.{BadToken}
use Rattle.theory_grammar.specs.Token.{Token}
use Rattle.theory_grammar.specs.Signs.{mark_byte, relation_bytes}
use Rattle.theory_grammar.specs.Lexeme.{Lexeme, word, pair, digits, sign, comparison, spelling, IsLexeme, IsLongest, token, fault, meaning}
use Rattle.theory_grammar.specs.Scan.{is_blank, Placed, End, complete, broken, IsOver, IsBad, Reads, over, blank, read, unread, bad}
use Rattle.theory_grammar.proofs.RunLaws.{same_cut, same_run}
use Rattle.theory_grammar.proofs.LexemeLaws.{other, first_class, class_of, lexeme_class, begins_so, no_lexeme_is_other, mark_of, mark_of-mark_byte, relation_of, relation_of-relation_bytes}
use Rattle.theory_grammar.proofs.LongestLaws.{word_bytes}

same_mark : (m n : Mark) → mark_byte m ∷ [] ≡ mark_byte n ∷ [] → m ≡ n
same_mark m n e =
    let bytes : mark_byte m ≡ mark_byte n = cc in
    let found : Some m ≡ Some n = sym (mark_of-mark_byte m) ∙ ap mark_of bytes ∙ mark_of-mark_byte n in
    cc

same_relation : (r s : Rel) → relation_bytes r ≡ relation_bytes s → r ≡ s
same_relation r s e = sym (relation_of-relation_bytes r) ∙ ap relation_of e ∙ relation_of-relation_bytes s

-- a word has no dot
word_or_pair : (w u v : List ℕ) → is_word w ≡ true → is_word u ≡ true → w ≡ u ++ 46 ∷ v → ⊥
word_or_pair w u v is_w is_u same =
    let cut = same_run is_word_byte w [] u (46 ∷ v) (word_bytes w is_w) refl (word_bytes u is_u) refl (sym same ∙ sym (append-nil w)) in
    let e = cut.1 in cc

same_pair : (u v p q : List ℕ) → is_word u ≡ true → is_word p ≡ true → u ++ 46 ∷ v ≡ p ++ 46 ∷ q → pair u v ≡ pair p q
same_pair u v p q is_u is_p same =
    let cut = same_run is_word_byte p (46 ∷ q) u (46 ∷ v) (word_bytes p is_p) refl (word_bytes u is_u) refl same in
    let heads = cut.0 in
    let behind = cut.1 in
    let tails : v ≡ q = cc in
    cc

-- the bytes show the lexeme
same_lexeme : (x y : Lexeme) → IsLexeme x → IsLexeme y → lexeme_class x ≡ lexeme_class y → spelling x ≡ spelling y → x ≡ y
same_lexeme (word w) (word p) is_x is_y kind same = ap word same
same_lexeme (word w) (pair p q) is_x is_y kind same = absurd (word_or_pair w p q is_x is_y.0 same)
same_lexeme (pair u v) (word p) is_x is_y kind same = absurd (word_or_pair p u v is_y is_x.0 (sym same))
same_lexeme (pair u v) (pair p q) is_x is_y kind same = same_pair u v p q is_x.0 is_y.0 same
same_lexeme (digits ds) (digits es) is_x is_y kind same = ap digits same
same_lexeme (sign m) (sign n) is_x is_y kind same = ap sign (same_mark m n same)
same_lexeme (comparison r) (comparison s) is_x is_y kind same = ap comparison (same_relation r s same)
same_lexeme x y is_x is_y kind same = cc

pub record SameFront (x y : Lexeme) (rest behind : List ℕ) : Type 0 where
  pub lexeme : x ≡ y
  pub rests : rest ≡ behind

-- bytes begin with one longest lexeme
pub one_longest : (x y : Lexeme) (rest behind bytes : List ℕ) → IsLongest x rest bytes → IsLongest y behind bytes → SameFront x y rest behind
one_longest x y rest behind bytes h k =
    let below = h.longest y behind k.lexeme k.whole in
    let above = k.longest x rest h.lexeme h.whole in
    let cut = same_cut (spelling x) (spelling y) rest behind (sym h.whole ∙ k.whole) (omega arith) in
    let kind = sym (begins_so x rest bytes h.lexeme h.whole) ∙ begins_so y behind bytes k.lexeme k.whole in
    record { lexeme = same_lexeme x y h.lexeme k.lexeme kind cut.0; rests = cut.1 }

-- what begins with a lexeme is not over
not_over : (x : Lexeme) (rest bytes : List ℕ) → IsLongest x rest bytes → IsOver bytes → ⊥
not_over x rest bytes h (inl e) = no_lexeme_is_other x (sym (begins_so x rest bytes h.lexeme h.whole) ∙ ap first_class e)
not_over x rest bytes h (inr k) = no_lexeme_is_other x (sym (begins_so x rest bytes h.lexeme h.whole) ∙ ap first_class k.1)

blank_is_other : (b : ℕ) → is_blank b ≡ true → class_of b ≡ other
blank_is_other b h =
    let first = λ (k : ((b == 32) || (b == 9)) ≡ true).
    ⊎_elim (λ e. ap class_of (eqb-true b 32 e)) (λ e. ap class_of (eqb-true b 9 e)) (or_cases (b == 32) (b == 9) k) in
    ⊎_elim first (λ e. ap class_of (eqb-true b 13 e)) (or_cases ((b == 32) || (b == 9)) (b == 13) h)

not_blank : (x : Lexeme) (b : ℕ) (rest behind : List ℕ) → IsLongest x rest (b ∷ behind) → is_blank b ≡ true → ⊥
not_blank x b rest behind h blanks = no_lexeme_is_other x (sym (begins_so x rest (b ∷ behind) h.lexeme h.whole) ∙ blank_is_other b blanks)

over_not_blank : (b : ℕ) (rest : List ℕ) → IsOver (b ∷ rest) → is_blank b ≡ true → ⊥
over_not_blank b rest (inl e) h = cc
over_not_blank b rest (inr k) h = let e = k.1 in let at : b ≡ 35 = cc in false≢true (ap is_blank (sym at) ∙ h)

over_not_bad : (b : ℕ) (rest : List ℕ) → IsOver (b ∷ rest) → IsBad b rest → ⊥
over_not_bad b rest (inl e) h = cc
over_not_bad b rest (inr k) h = let e = k.1 in let at : b ≡ 35 = cc in h.no_comment at

bad_no_lexeme : (x : Lexeme) (b : ℕ) (rest behind : List ℕ) → IsLongest x rest (b ∷ behind) → IsBad b behind → ⊥
bad_no_lexeme x b rest behind h k = k.no_lexeme x rest h.lexeme h.whole

bad_not_blank : (b : ℕ) (rest : List ℕ) → IsBad b rest → is_blank b ≡ true → ⊥
bad_not_blank b rest h k = false≢true (sym h.no_blank ∙ k)

-- what is left of a reading, once its first part is known
pub record IsPassed (t : Placed) (c : ℕ) (rest : List ℕ) (ts : List Placed) (e : End) : Type 0 where
  pub behind : List Placed
  pub split : ts ≡ t ∷ behind
  pub reads : Reads c rest behind e

from_over : (c : ℕ) (bytes : List ℕ) (ts : List Placed) (e : End) → IsOver bytes → Reads c bytes ts e → (ts ≡ []) × (e ≡ complete c)
from_over c bytes ts e h (over _ _ k) = (refl, refl)
from_over c bytes ts e h (blank _ b rest _ _ blanks r) = absurd (over_not_blank b rest h blanks)
from_over c bytes ts e h (read _ _ rest x t us _ k m r) = absurd (not_over x rest bytes k h)
from_over c bytes ts e h (unread _ _ rest x u k m) = absurd (not_over x rest bytes k h)
from_over c bytes ts e h (bad _ b rest k) = absurd (over_not_bad b rest h k)

from_blank : (c b : ℕ) (rest : List ℕ) (ts : List Placed) (e : End) → is_blank b ≡ true → Reads c (b ∷ rest) ts e → Reads (c + 1) rest ts e
from_blank c b rest ts e h (over _ _ k) = absurd (over_not_blank b rest k h)
from_blank c b rest ts e h (blank _ _ _ _ _ blanks r) = r
from_blank c b rest ts e h (read _ _ behind x t us _ k m r) = absurd (not_blank x b behind rest k h)
from_blank c b rest ts e h (unread _ _ behind x u k m) = absurd (not_blank x b behind rest k h)
from_blank c b rest ts e h (bad _ _ _ k) = absurd (bad_not_blank b rest k h)

from_bad : (c b : ℕ) (rest : List ℕ) (ts : List Placed) (e : End) → IsBad b rest → Reads c (b ∷ rest) ts e → (ts ≡ []) × (e ≡ broken BadToken c)
from_bad c b rest ts e h (over _ _ k) = absurd (over_not_bad b rest k h)
from_bad c b rest ts e h (blank _ _ _ _ _ blanks r) = absurd (bad_not_blank b rest h blanks)
from_bad c b rest ts e h (read _ _ behind x t us _ k m r) = absurd (bad_no_lexeme x b behind rest k h)
from_bad c b rest ts e h (unread _ _ behind x u k m) = absurd (bad_no_lexeme x b behind rest k h)
from_bad c b rest ts e h (bad _ _ _ k) = (refl, refl)

from_read : (c : ℕ) (bytes rest : List ℕ) (x : Lexeme) (t : Token) (ts : List Placed) (e : End) → IsLongest x rest bytes → meaning x ≡ token t →
    Reads c bytes ts e → IsPassed (record { column = c; token = t }) (c + length (spelling x)) rest ts e
from_read c bytes rest x t ts e h m (over _ _ k) = absurd (not_over x rest bytes h k)
from_read c bytes rest x t ts e h m (blank _ b behind _ _ blanks r) = absurd (not_blank x b rest behind h blanks)
from_read c bytes rest x t ts e h m (read _ _ behind y u us _ k n r) =
    let front = one_longest x y rest behind bytes h k in
    let meant : token t ≡ token u = sym m ∙ ap meaning front.lexeme ∙ n in
    let same : t ≡ u = cc in
    let long : c + length (spelling y) ≡ c + length (spelling x) = ap (λ (z : Lexeme). c + length (spelling z)) (sym front.lexeme) in
    let placed = subst (λ (n : ℕ). Reads n behind us e) long r in
    record {
      behind = us;
      split = ap (λ (w : Token). let p : Placed = record { column = c; token = w } in p ∷ us) (sym same);
      reads = subst (λ (bs : List ℕ). Reads (c + length (spelling x)) bs us e) (sym front.rests) placed;
    }
from_read c bytes rest x t ts e h m (unread _ _ behind y u k n) =
    let front = one_longest x y rest behind bytes h k in
    let meant : token t ≡ fault u = sym m ∙ ap meaning front.lexeme ∙ n in
    cc
from_read c bytes rest x t ts e h m (bad _ b behind k) = absurd (bad_no_lexeme x b rest behind h k)

from_unread : (c : ℕ) (bytes rest : List ℕ) (x : Lexeme) (u : Unreadable) (ts : List Placed) (e : End) → IsLongest x rest bytes → meaning x ≡ fault u →
    Reads c bytes ts e → (ts ≡ []) × (e ≡ broken u c)
from_unread c bytes rest x u ts e h m (over _ _ k) = absurd (not_over x rest bytes h k)
from_unread c bytes rest x u ts e h m (blank _ b behind _ _ blanks r) = absurd (not_blank x b rest behind h blanks)
from_unread c bytes rest x u ts e h m (read _ _ behind y t us _ k n r) =
    let front = one_longest x y rest behind bytes h k in
    let meant : fault u ≡ token t = sym m ∙ ap meaning front.lexeme ∙ n in
    cc
from_unread c bytes rest x u ts e h m (unread _ _ behind y w k n) =
    let front = one_longest x y rest behind bytes h k in
    let meant : fault u ≡ fault w = sym m ∙ ap meaning front.lexeme ∙ n in
    let same : w ≡ u = cc in
    (refl, ap (λ (v : Unreadable). broken v c) same)
from_unread c bytes rest x u ts e h m (bad _ b behind k) = absurd (bad_no_lexeme x b rest behind h k)

-- the bytes of a line are read in at most one way
pub one_reading : (c : ℕ) (bytes : List ℕ) (ts us : List Placed) (e f : End) → Reads c bytes ts e → Reads c bytes us f → (ts ≡ us) × (e ≡ f)
one_reading c bytes ts us e f (over _ _ h) k =
    let found = from_over c bytes us f h k in (sym found.0, sym found.1)
one_reading c bytes ts us e f (blank _ b rest _ _ h r) k =
    one_reading (c + 1) rest ts us e f r (from_blank c b rest us f h k)
one_reading c bytes ts us e f (read _ _ rest x t vs _ h m r) k =
    let found = from_read c bytes rest x t us f h m k in
    let below = one_reading (c + length (spelling x)) rest vs found.behind e f r found.reads in
    let tokens : vs ≡ found.behind = below.0 in
    let first : Placed = record { column = c; token = t } in
    (ap (λ (ws : List Placed). first ∷ ws) tokens ∙ sym found.split, below.1)
one_reading c bytes ts us e f (unread _ _ rest x u h m) k =
    let found = from_unread c bytes rest x u us f h m k in (sym found.0, sym found.1)
one_reading c bytes ts us e f (bad _ b rest h) k =
    let found = from_bad c b rest us f h k in (sym found.0, sym found.1)
