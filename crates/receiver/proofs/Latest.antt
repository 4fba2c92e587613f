-- The last accepted message of each sender, in quantified words: what is in the list, and that its senders rise.
-- Assumes nothing.
use mathlib.Core.Path.{◌≡◌, refl, sym, ap, ◌∙◌}
use mathlib.Core.Bool.{Bool, true, false, cond}
use mathlib.Core.Logic.{◌⊎◌, inl, inr}
use mathlib.Core.List.Memᴰ
use mathlib.Core.List.{List, [], ◌∷◌, ◌++◌, append_assoc, Memᴰ}
use Prim.Native.Nat.{ℕ, ◌<◌}
use native.Mathlib.Omega.{arith}
use borrow.Author.Tests.{ltb-true, ltb-false, lt-ltb}
use lib.Dec.{ltb}
use Rattle.std.specs.List.{filter}
use Rattle.receiver.specs.declared.Received.{Received}
use Rattle.receiver.specs.declared.held.Side.TheVariants.{Lower, Higher}
use Rattle.receiver.specs.Held.{is_beside, with_message}
use Rattle.receiver.specs.Reading.{latest}
use Rattle.receiver.specs.InWords.{IsLast, Above, Rising}
use Rattle.receiver.proofs.Filters.{kept_member, member_kept}

-- ---- what is in the list

-- x joined, or it was there and is of another sender
joined_cases : (e : Received) (xs : List Received) (x : Received) → Memᴰ x (with_message e xs) → (x ≡ e) ⊎ (Memᴰ x xs × (x.sender ≡ e.sender → ⊥))
unfolding with_message is_beside
joined_cases e xs x i =
    elim (Memᴰ.append_cases (filter (is_beside Lower e.sender) xs ++ (e ∷ [])) i) [
      | inl j ↦ elim (Memᴰ.append_cases (filter (is_beside Lower e.sender) xs) j) [
        | inl k ↦ let m = kept_member (is_beside Lower e.sender) xs k in inr (m.0, λ q. let l = ltb-true x.sender e.sender m.1 in omega arith)
        | inr k ↦ inl (Memᴰ.eq_of_singleton k)
      ]
      | inr j ↦ let m = kept_member (is_beside Higher e.sender) xs j in inr (m.0, λ q. let l = ltb-true e.sender x.sender m.1 in omega arith)
    ]

joins : (e : Received) (xs : List Received) → Memᴰ e (with_message e xs)
unfolding with_message
joins e xs = Memᴰ.append_left (filter (is_beside Higher e.sender) xs) (Memᴰ.append_right (filter (is_beside Lower e.sender) xs) (Memᴰ.head refl))

stays : (e : Received) (xs : List Received) (x : Received) → Memᴰ x xs → (x.sender ≡ e.sender → ⊥) → Memᴰ x (with_message e xs)
unfolding with_message is_beside
stays e xs x i other = go (ltb x.sender e.sender) refl
  where
    go : (b : Bool) → ltb x.sender e.sender ≡ b → Memᴰ x (filter (is_beside Lower e.sender) xs ++ (e ∷ []) ++ filter (is_beside Higher e.sender) xs)
    go true h = Memᴰ.append_left (filter (is_beside Higher e.sender) xs) (Memᴰ.append_left (e ∷ []) (member_kept (is_beside Lower e.sender) xs i h))
    go false h =
        let l = ltb-false x.sender e.sender h in
        Memᴰ.append_right (filter (is_beside Lower e.sender) xs ++ (e ∷ [])) (member_kept (is_beside Higher e.sender) xs i (lt-ltb e.sender x.sender (omega arith)))

pub member_last : (past : List Received) (x : Received) → Memᴰ x (latest past) → IsLast past x
unfolding latest
member_last [] x i = absurd (Memᴰ.not-nil i)
member_last (e ∷ past) x i =
    elim (joined_cases e (latest past) x i) [
      | inl q ↦ record { later = []; earlier = past; accepted = ap (λ (y : Received). y ∷ past) (sym q); last = λ y j. absurd (Memᴰ.not-nil j) }
      | inr m ↦
          let l = member_last past x m.0 in
          record {
            later = e ∷ l.later;
            earlier = l.earlier;
            accepted = ap (λ (xs : List Received). e ∷ xs) l.accepted;
            last = λ y j s. elim (Memᴰ.cases_cons j) [ inl q ↦ m.1 (sym s ∙ ap (λ (z : Received). z.sender) q) | inr k ↦ l.last y k s ];
          }
    ]

pub last_member : (past : List Received) (x : Received) → IsLast past x → Memᴰ x (latest past)
unfolding latest
last_member [] x l = go l.later l.accepted
  where
    go : (later : List Received) → [] ≡ later ++ (x ∷ l.earlier) → Memᴰ x []
    go [] e = cc
    go (y ∷ ys) e = cc
last_member (e ∷ past) x l = go l.later l.accepted l.last (last_member past x)
  where
    go : (later : List Received) → e ∷ past ≡ later ++ (x ∷ l.earlier) → ((y : Received) → Memᴰ y later → y.sender ≡ x.sender → ⊥) → (IsLast past x → Memᴰ x (latest past))
        → Memᴰ x (with_message e (latest past))
    go [] q last rest = let same : x ≡ e = cc in Memᴰ.cast same (joins e (latest past))
    go (y ∷ ys) q last rest =
        let first : e ≡ y = cc in
        let more : past ≡ ys ++ (x ∷ l.earlier) = cc in
        stays e (latest past) x (rest (record { later = ys; earlier = l.earlier; accepted = more; last = λ z j. last z (Memᴰ.tail j) }))
        (λ s. last y (Memᴰ.head refl) (ap (λ (z : Received). z.sender) (sym first) ∙ sym s))

-- ---- its senders rise

above_kept : (p : Received → Bool) (sender : ℕ) (xs : List Received) → Above sender xs → Above sender (filter p xs)
above_kept p sender [] a = tt
above_kept p sender (x ∷ xs) a = go (p x) (above_kept p sender xs a.1)
  where
    go : (b : Bool) → Above sender (filter p xs) → Above sender (cond b (x ∷ filter p xs) (filter p xs))
    go true rest = (a.0, rest)
    go false rest = rest

pub rising_kept : (p : Received → Bool) (xs : List Received) → Rising xs → Rising (filter p xs)
rising_kept p [] r = tt
rising_kept p (x ∷ xs) r = go (p x) (rising_kept p xs r.1)
  where
    go : (b : Bool) → Rising (filter p xs) → Rising (cond b (x ∷ filter p xs) (filter p xs))
    go true rest = (above_kept p x.sender xs r.0, rest)
    go false rest = rest

higher_above : (sender : ℕ) (xs : List Received) → Above sender (filter (is_beside Higher sender) xs)
unfolding is_beside
higher_above sender [] = tt
higher_above sender (x ∷ xs) = go (ltb sender x.sender) refl (higher_above sender xs)
  where
    go : (b : Bool) → ltb sender x.sender ≡ b → Above sender (filter (is_beside Higher sender) xs) → Above sender (cond b (x ∷ filter (is_beside Higher sender) xs) (filter (is_beside Higher sender) xs))
    go true h rest = (ltb-true sender x.sender h, rest)
    go false h rest = rest

abbrev Below : ℕ → List Received → Type 0
Below sender [] = Unit {0}
Below sender (x ∷ xs) = (x.sender < sender) × Below sender xs

lower_below : (sender : ℕ) (xs : List Received) → Below sender (filter (is_beside Lower sender) xs)
unfolding is_beside
lower_below sender [] = tt
lower_below sender (x ∷ xs) = go (ltb x.sender sender) refl (lower_below sender xs)
  where
    go : (b : Bool) → ltb x.sender sender ≡ b → Below sender (filter (is_beside Lower sender) xs) → Below sender (cond b (x ∷ filter (is_beside Lower sender) xs) (filter (is_beside Lower sender) xs))
    go true h rest = (ltb-true x.sender sender h, rest)
    go false h rest = rest

above_more : (s t : ℕ) → s < t → (xs : List Received) → Above t xs → Above s xs
above_more s t h [] a = tt
above_more s t h (x ∷ xs) a = let l : t < x.sender = a.0 in (omega arith, above_more s t h xs a.1)

above_joined : (s : ℕ) (xs : List Received) (e : Received) (ys : List Received) → Above s xs → s < e.sender → Above e.sender ys → Above s (xs ++ (e ∷ ys))
above_joined s [] e ys a h b = (h, above_more s e.sender h ys b)
above_joined s (x ∷ xs) e ys a h b = (a.0, above_joined s xs e ys a.1 h b)

rising_joined : (xs : List Received) (e : Received) (ys : List Received) → Rising xs → Below e.sender xs → Above e.sender ys → Rising ys → Rising (xs ++ (e ∷ ys))
rising_joined [] e ys r b a q = (a, q)
rising_joined (x ∷ xs) e ys r b a q = (above_joined x.sender xs e ys r.0 b.0 a, rising_joined xs e ys r.1 b.1 a q)

pub rising_latest : (past : List Received) → Rising (latest past)
unfolding latest with_message
rising_latest [] = tt
rising_latest (e ∷ past) =
    let r = rising_latest past in
    rw (append_assoc (filter (is_beside Lower e.sender) (latest past)) (e ∷ []) (filter (is_beside Higher e.sender) (latest past)))
    (rising_joined (filter (is_beside Lower e.sender) (latest past)) e (filter (is_beside Higher e.sender) (latest past))
    (rising_kept (is_beside Lower e.sender) (latest past) r) (lower_below e.sender (latest past))
    (higher_above e.sender (latest past)) (rising_kept (is_beside Higher e.sender) (latest past) r))
