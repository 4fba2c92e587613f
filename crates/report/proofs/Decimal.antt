-- Numbers in decimal: `decimal n` has digits alone, without a leading zero, and reads back as n; and how many digits it has.
-- Assumes nothing.
use mathlib.Core.Path.{◌≡◌, refl, sym}
use mathlib.Core.Bool.{Bool, true, false, cond}
use mathlib.Core.List.{List, [], ◌∷◌, ◌++◌}
use Prim.Native.Nat.{ℕ, zero, suc, ◌+◌, ◌-◌, ◌*◌, ◌/◌, ◌%◌, ◌^◌, ◌≤◌, ◌<◌}
use native.Mathlib.Omega.{arith}
use borrow.Author.Tests.{lt-ltb, le-ltb, ltb-true, ltb-false}
use lib.Dec.{ltb}
use lib.ListN.{length, get_or, length-append, get_or-append}
use Rattle.std.specs.Fmt as library
use Rattle.std.proofs.lemmas.Fmt.{AppendsLastDigit, decimal_from_appends, length-decimal-le, length-decimal-le_succ}
use Rattle.report.specs.Lines.{ascii, digit, digits, decimal, Digits, value_from}

-- ---- the two equations of `decimal`, and induction along them

-- any number of digits above n is enough
digits_enough : (f g n : ℕ) → n < f → n < g → digits f n ≡ digits g n
unfolding digits
digits_enough zero g n h k = absurd (omega arith)
digits_enough (suc f) zero n h k = absurd (omega arith)
digits_enough (suc f) (suc g) n h k = go (ltb n 10) refl (λ l. digits_enough f g (n / 10) (omega arith) (omega arith))
  where
    go : (b : Bool) → ltb n 10 ≡ b → (10 ≤ n → digits f (n / 10) ≡ digits g (n / 10))
        → cond b (digit n ∷ []) (digits f (n / 10) ++ (digit (n % 10) ∷ [])) ≡ cond b (digit n ∷ []) (digits g (n / 10) ++ (digit (n % 10) ∷ []))
    go true e next = refl
    go false e next = rw (next (ltb-false _ _ e))

pub decimal_small : (n : ℕ) → n < 10 → decimal n ≡ digit n ∷ []
unfolding decimal digits
decimal_small n h = simp (lt-ltb _ _ h)

pub decimal_large : (n : ℕ) → 10 ≤ n → decimal n ≡ decimal (n / 10) ++ (digit (n % 10) ∷ [])
unfolding decimal digits
decimal_large n h = rw (le-ltb _ _ h, digits_enough n (suc (n / 10)) (n / 10) (omega arith) (omega arith))

-- what holds below ten, and of n where it holds of n / 10, holds of all numbers
by_tens : (P : ℕ → Type 0) → ((n : ℕ) → n < 10 → P n) → ((n : ℕ) → 10 ≤ n → P (n / 10) → P n) → (n : ℕ) → P n
by_tens P small large n = below (suc n) n (omega arith)
  where
    pick : (n : ℕ) (b : Bool) → ltb n 10 ≡ b → (10 ≤ n → P (n / 10)) → P n
    pick n true e next = small n (ltb-true _ _ e)
    pick n false e next = large n (ltb-false _ _ e) (next (ltb-false _ _ e))

    below : (f n : ℕ) → n < f → P n
    below zero n h = absurd (omega arith)
    below (suc f) n h = pick n (ltb n 10) refl (λ l. below f (n / 10) (omega arith))

-- ---- what a reader makes of it

value_append : (v : ℕ) (s t : List ℕ) → value_from v (s ++ t) ≡ value_from (value_from v s) t
unfolding value_from
value_append v [] t = refl
value_append v (b ∷ s) t = value_append (10 * v + (b - digit 0)) s t

-- read from left to right, the digits stand for the number
pub decimal_reads_back : (n : ℕ) → value_from 0 (decimal n) ≡ n
unfolding value_from
decimal_reads_back = by_tens (λ n. value_from 0 (decimal n) ≡ n)
    (λ n h. rw (decimal_small n h) (omega arith))
    (λ n h e. rw (decimal_large n h, value_append, e) (omega arith))

digits_append : (s t : List ℕ) → Digits s → Digits t → Digits (s ++ t)
digits_append [] t h k = k
digits_append (b ∷ s) t h k = (h.0, digits_append s t h.1 k)

-- each byte is a digit
pub decimal_digits : (n : ℕ) → Digits (decimal n)
decimal_digits = by_tens (λ n. Digits (decimal n))
    (λ n h. rw (decimal_small n h) ((omega arith, omega arith), tt))
    (λ n h k. rw (decimal_large n h) (digits_append (decimal (n / 10)) (digit (n % 10) ∷ []) k ((omega arith, omega arith), tt)))

-- 0 is one digit, and any other number begins with a digit from 1 to 9
pub decimal_zero : decimal 0 ≡ ascii "0"
unfolding ascii
decimal_zero = decimal_small 0 (omega arith)

pub decimal_some : (n : ℕ) → 0 < length (decimal n)
decimal_some = by_tens (λ n. 0 < length (decimal n))
    (λ n h. rw (decimal_small n h) (omega arith))
    (λ n h k. rw (decimal_large n h) (omega (arith, length-append (decimal (n / 10)) (digit (n % 10) ∷ []))))

pub decimal_no_leading_zero : (n : ℕ) → 0 < n → digit 0 < get_or (decimal n) 0 0
decimal_no_leading_zero = by_tens (λ n. 0 < n → digit 0 < get_or (decimal n) 0 0)
    (λ n h p. rw (decimal_small n h) (omega arith))
    (λ n h k p. rw (decimal_large n h, get_or-append (decimal (n / 10)) (digit (n % 10) ∷ []) 0 0 (decimal_some (n / 10))) (k (omega arith)))

-- ---- the digits that the library writes

last_digit_behind : AppendsLastDigit digits
unfolding digits
last_digit_behind = record {
  one = λ k n h. simp (lt-ltb _ _ h);
  more = λ k n h. simp (le-ltb _ _ h);
}

-- a number that a machine holds has the same digits there
pub library_decimal : (n : ℕ) → n < 2 ^ 64 → library.decimal n ≡ decimal n
unfolding decimal
library_decimal n h =
    let few : length (library.decimal n) ≤ suc n = omega (arith, length-decimal-le_succ n h) in
    sym (decimal_from_appends digits last_digit_behind (suc n) n h few)

-- so a number of 64 bits has at most twenty, one of 32 bits at most ten, and one of 8 bits at most three
pub decimal_at_most_20 : (n : ℕ) → n < 2 ^ 64 → length (decimal n) ≤ 20
decimal_at_most_20 n h = rw (← library_decimal n h) (length-decimal-le 20 n (omega arith) (omega arith) h)

pub decimal_at_most_10 : (n : ℕ) → n < 2 ^ 32 → length (decimal n) ≤ 10
decimal_at_most_10 n h = rw (← library_decimal n (omega arith)) (length-decimal-le 10 n (omega arith) (omega arith) (omega arith))

pub decimal_at_most_3 : (n : ℕ) → n < 2 ^ 8 → length (decimal n) ≤ 3
decimal_at_most_3 n h = rw (← library_decimal n (omega arith)) (length-decimal-le 3 n (omega arith) (omega arith) (omega arith))
