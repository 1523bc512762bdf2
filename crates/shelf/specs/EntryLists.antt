-- Lists of entries: their length, and what stands at a place. Assumes nothing.
use Rattle.std.specs.Prelude.{◌≡◌, ℕ, zero, suc, ◌+◌, ◌-◌, ◌<◌, ◌≤◌, true, cond, List, [], ◌∷◌, ◌++◌, length, drop, get_or, ◌==◌, nat_le, slice_index_or, refl}
use Rattle.std.proofs.Common.{sym, ap, ◌∙◌, ⊎_elim, add-one, arith, lit≤}
use Rattle.std.proofs.lemmas.Bool.{cases_lt, leb-true, le-leb, lt-leb, cond-true, cond-false, cond_both, and_from, and_parts, ne_eqb}
use Rattle.std.proofs.lemmas.List.{drop_all, drop_more, get_or_past, get_or_append_left, get_or-append_right, get_or_default}
use Rattle.shelf.specs.Shelves.{Entry, entry_at, at_most_all, byteless, all_sound}
use Rattle.shelf.specs.Coming.{answers, counted_left}
use Rattle.shelf.specs.declared.counted.CountedEntries.{CountedEntries}
use Rattle.shelf.specs.declared.fault.Cause.TheVariants.{Outside, TooLong}

pub all_short : (m : ℕ) (xs : List Entry) → length (at_most_all m xs) ≤ 65535
all_short m xs = cond_both (nat_le (length xs) 65535) xs (byteless m 1 TooLong ∷ []) (λ ys. length ys ≤ 65535) (λ e. leb-true (length xs) 65535 e) (λ _. lit≤ tt)

pub all_kept : (m : ℕ) (xs : List Entry) → length xs ≤ 65535 → at_most_all m xs ≡ xs
all_kept m xs h = cond-true (nat_le (length xs) 65535) xs (byteless m 1 TooLong ∷ []) (le-leb (length xs) 65535 h)

pub all_lost : (m : ℕ) (xs : List Entry) → 65535 < length xs → at_most_all m xs ≡ byteless m 1 TooLong ∷ []
all_lost m xs h = cond-false (nat_le (length xs) 65535) xs (byteless m 1 TooLong ∷ []) (lt-leb (length xs) 65535 h)

pub kept_sound : (m : ℕ) (xs : List Entry) → all_sound xs ≡ true → all_sound (at_most_all m xs) ≡ true
kept_sound m xs h = cond_both (nat_le (length xs) 65535) xs (byteless m 1 TooLong ∷ []) (λ ys. all_sound ys ≡ true) (λ _. h) (λ _. refl)

-- a shelf of too many entries answers at each place that it is too long, or that the place is outside
pub at_lost : (m p : ℕ) (xs : List Entry) → 65535 < length xs → entry_at (at_most_all m xs) m p ≡ byteless m p (cond (p == 1) TooLong Outside)
at_lost m zero xs h = refl
at_lost m (suc zero) xs h = ap (λ (ys : List Entry). get_or ys 0 (byteless m 1 Outside)) (all_lost m xs h)
at_lost m (suc (suc k)) xs h = ap (λ (ys : List Entry). get_or ys (suc k) (byteless m (suc (suc k)) Outside)) (all_lost m xs h) ∙ ap (byteless m (suc (suc k))) (sym (cond-false (suc (suc k) == 1) TooLong Outside (ne_eqb (suc (suc k)) 1 (omega arith))))

-- a place past the list is outside
pub at_past : (m p : ℕ) (xs : List Entry) → length xs ≤ 65535 → length xs < p → entry_at (at_most_all m xs) m p ≡ byteless m p Outside
at_past m zero xs h l = refl
at_past m (suc k) xs h l = ap (λ (ys : List Entry). get_or ys k (byteless m (suc k) Outside)) (all_kept m xs h) ∙ get_or_past xs k (byteless m (suc k) Outside) (omega arith)

-- a place on the list
pub at_place : (m p k : ℕ) (xs : List Entry) → length xs ≤ 65535 → p ≡ suc k → entry_at (at_most_all m xs) m p ≡ slice_index_or xs k (byteless m (suc k) Outside)
at_place m p k xs h e = ap (entry_at (at_most_all m xs) m) e ∙ ap (λ (ys : List Entry). get_or ys k (byteless m (suc k) Outside)) (all_kept m xs h)

append_sound : (xs ys : List Entry) → all_sound xs ≡ true → all_sound ys ≡ true → all_sound (xs ++ ys) ≡ true
append_sound [] ys h k = k
append_sound (x ∷ xs) ys h k = and_from _ _ (and_parts _ _ h).0 (append_sound xs ys (and_parts _ _ h).1 k)

pub joined_sound : (m : ℕ) (xs ys : List Entry) → all_sound xs ≡ true → all_sound ys ≡ true → all_sound (at_most_all m (xs ++ ys)) ≡ true
joined_sound m xs ys h k = kept_sound m (xs ++ ys) (append_sound xs ys h k)

-- a place of the first list, and one of the second
pub at_first : (m n p : ℕ) (xs ys : List Entry) → length (xs ++ ys) ≤ 65535 → 1 ≤ p → p ≤ length xs → entry_at (at_most_all m (xs ++ ys)) m p ≡ entry_at xs n p
at_first m n zero xs ys h a b = absurd (omega arith)
at_first m n (suc k) xs ys h a b =
    at_place m (suc k) k (xs ++ ys) h refl ∙ get_or_append_left xs ys (byteless m (suc k) Outside) k b ∙ get_or_default xs k (byteless m (suc k) Outside) (byteless n (suc k) Outside) b

later : (k n : ℕ) → n ≤ k → suc (k - n) ≡ suc k - n
later k n h = omega arith

pub at_second : (m n p : ℕ) (xs ys : List Entry) → length (xs ++ ys) ≤ 65535 → length xs < p → p ≤ length xs + length ys → entry_at (at_most_all m (xs ++ ys)) m p ≡ entry_at ys n (p - length xs)
at_second m n zero xs ys h a b = absurd (omega arith)
at_second m n (suc k) xs ys h a b =
    at_place m (suc k) k (xs ++ ys) h refl ∙ get_or-append_right xs ys (length xs) k (byteless m (suc k) Outside) refl (omega arith)
    ∙ get_or_default ys (k - length xs) (byteless m (suc k) Outside) (byteless n (suc (k - length xs)) Outside) (omega arith)
    ∙ ap (entry_at ys n) (later k (length xs) (omega arith))

-- what comes next after the first k entries of a list
pub entries_next : (xs : List Entry) (m k : ℕ) → k < length xs → drop k xs ≡ entry_at xs m (k + 1) ∷ drop (k + 1) xs
entries_next xs m k h = drop_more xs k (byteless m (suc k) Outside) h ∙ ap (λ (p : ℕ). entry_at xs m p ∷ drop (k + 1) xs) (sym (add-one k))

less : (k n : ℕ) → k < n → n - k ≡ suc (n - (k + 1))
less k n h = omega arith

-- what is answered first of what the places from one on to the last give
pub answers_next : (xs : List Entry) (m k n : ℕ) → k < n → answers xs m k (n - k) ≡ entry_at xs m (k + 1) ∷ answers xs m (k + 1) (n - (k + 1))
answers_next xs m k n h = ap (answers xs m k) (less k n h)

-- what is answered at the last n places is what is left of the list
answers_from : (xs : List Entry) (m k n : ℕ) → k + n ≡ length xs → answers xs m k n ≡ drop k xs
answers_from xs m k zero e = sym (drop_all k xs (omega arith))
answers_from xs m k (suc n) e = ap (λ (ys : List Entry). entry_at xs m (k + 1) ∷ ys) (answers_from xs m (k + 1) n (omega arith)) ∙ sym (entries_next xs m k (omega arith))

-- what a shelf answers at all its places is its list
pub all_answers : {S : Type 0} (list : S → List Entry) (mark : S → ℕ) (s t : S) (k n : ℕ) → t ≡ s → k ≡ 0 → n ≡ length (list s) → answers (list t) (mark t) k (n - k) ≡ list s
all_answers {S} list mark s t k n a b e =
    ap (λ (x : S). answers (list x) (mark x) k (n - k)) a ∙ ap (λ (i : ℕ). answers (list s) (mark s) i (n - i)) b
    ∙ answers_from (list s) (mark s) 0 (n - 0) (omega arith)

-- what is answered at the places from one on to the last is what is left of the list
answers_to : (xs : List Entry) (m k n : ℕ) → n ≡ length xs → answers xs m k (n - k) ≡ drop k xs
answers_to xs m k n e = ⊎_elim
    (λ (l : n < k). ap (answers xs m k) (none l) ∙ answers_none l)
    (λ (l : k ≤ n). answers_from xs m k (n - k) (omega (arith, e)))
    (cases_lt n k)
  where
    none : n < k → n - k ≡ 0
    none l = omega arith

    answers_none : n < k → answers xs m k 0 ≡ drop k xs
    answers_none l = sym (drop_all k xs (omega (arith, e)))

-- while the count is that of the list, what the shelf answers at the places that are left is what is left of its list
pub counted_is_left : {S : Type 0} (list : S → List Entry) (mark : S → ℕ) (e : CountedEntries S) → e.count ≡ length (list e.shelf.now) → counted_left list mark e ≡ drop e.given (list e.shelf.now)
counted_is_left list mark e same = answers_to (list e.shelf.now) (mark e.shelf.now) e.given e.count same
