-- The busiest stretch by examples, worked by hand after document 02, CR 7: the bounds of a stretch, ties, equal ticks, and the bounds and the order of the checks.
-- Assumes nothing.
use Rattle.std.specs.Prelude.{ℕ, ◌≡◌, List, [], ◌∷◌, ◌++◌, map, pos, take, Option, None, Some}
use Rattle.std.specs.List.{concat}
use Rattle.wire.specs.Memory.{splice}
use Rattle.wire.specs.Outcome.{Outcome, accepted}
use Rattle.message.specs.Message.{encode}
use Rattle.message.specs.Examples.{message}
use Rattle.busiest.specs.declared.Busiest.{Busiest}
use Rattle.busiest.specs.Busiest.{stretch_fault, stretch}

-- the records of News of warning 1 with these reference ticks
abbrev pub news_at : List ℕ → List ℕ
news_at ticks = concat (map (λ t. encode (message 1 1 1 0 0 1 t t (pos 0) (pos 0) 0 30)) ticks)

-- the answer for them and stretches of w ticks
abbrev pub for_news : ℕ → List ℕ → Outcome Busiest
for_news w ticks = stretch (news_at ticks) w

-- a number and a tick that are answered
abbrev pub found : ℕ → Option ℕ → Outcome Busiest
found n t = accepted (record { messages = n; first = t })

-- a Cancel at tick 500 of an event whose last message was given at tick 5
abbrev pub cancel_at_500 : List ℕ
cancel_at_500 = encode (message 3 1 1 0 0 1 5 500 (pos 0) (pos 0) 0 30)

-- an Update of warning 4 at tick 501
abbrev pub update_at_501 : List ℕ
update_at_501 = encode (message 2 4 1 0 0 2 501 501 (pos 0) (pos 0) 0 2)

-- the same list with the byte at this place spoilt
abbrev pub spoilt : ℕ → List ℕ → List ℕ
spoilt at list = splice list at (5 ∷ [])

pub record StretchExamples : Type 0 where
  -- "in w ticks on end": three messages, 10 ticks from each to the next
  pub width : map (λ w. for_news w (100 ∷ 110 ∷ 120 ∷ [])) (1 ∷ 10 ∷ 11 ∷ 20 ∷ 21 ∷ 10000000 ∷ [])
      ≡ found 1 (Some 100) ∷ found 1 (Some 100) ∷ found 2 (Some 100) ∷ found 2 (Some 100) ∷ found 3 (Some 100) ∷ found 3 (Some 100) ∷ []
  -- "the largest number": in the middle, at the end, and across the multiples of w
  pub largest : map (for_news 5) ((0 ∷ 3 ∷ 10 ∷ 12 ∷ 14 ∷ 30 ∷ 34 ∷ []) ∷ (0 ∷ 9 ∷ 20 ∷ 23 ∷ []) ∷ (3 ∷ 4 ∷ 5 ∷ 6 ∷ []) ∷ [])
      ≡ found 3 (Some 10) ∷ found 2 (Some 20) ∷ found 4 (Some 3) ∷ []
  -- "the earliest": two that lie apart, two that share a message, and three in a row
  pub earliest : map (for_news 5) ((1 ∷ 5 ∷ 20 ∷ 22 ∷ []) ∷ (2 ∷ 6 ∷ 10 ∷ []) ∷ (7 ∷ 13 ∷ 19 ∷ []) ∷ []) ≡ found 2 (Some 1) ∷ found 2 (Some 2) ∷ found 1 (Some 7) ∷ []
  -- each message counts, of equal ticks too: alone, and at the start and the end of a stretch
  pub equal : map (for_news 3) ((4 ∷ 7 ∷ 7 ∷ 7 ∷ 10 ∷ []) ∷ (5 ∷ 5 ∷ 7 ∷ 7 ∷ 8 ∷ []) ∷ (2 ∷ 2 ∷ 6 ∷ 6 ∷ []) ∷ []) ≡ found 3 (Some 7) ∷ found 4 (Some 5) ∷ found 2 (Some 2) ∷ []
  -- the first tick of all is a tick, and a stretch may end after tick 9,999,999
  pub ends : map (λ w. for_news w (0 ∷ 9999999 ∷ [])) (1 ∷ 9999999 ∷ 10000000 ∷ []) ≡ found 1 (Some 0) ∷ found 1 (Some 0) ∷ found 2 (Some 0) ∷ []
  -- "whose reference ticks": not a Cancel's detection tick
  pub reference : map (λ w. stretch (news_at (5 ∷ 6 ∷ []) ++ cancel_at_500) w) (10 ∷ 495 ∷ 496 ∷ []) ≡ found 2 (Some 5) ∷ found 2 (Some 5) ∷ found 3 (Some 5) ∷ []
  -- "messages": New, Cancel and Update alike, of whichever warning
  pub kinds : map (λ w. stretch (news_at (499 ∷ []) ++ cancel_at_500 ++ update_at_501) w) (2 ∷ 3 ∷ []) ≡ found 2 (Some 499) ∷ found 3 (Some 499) ∷ []
  -- "An empty list with an allowed w gives zero and no tick."
  pub empty : map (stretch []) (1 ∷ 10000000 ∷ []) ≡ found 0 None ∷ found 0 None ∷ []
  -- "a width of 0 or over 10,000,000", with no message and with one
  pub widths : map (λ list. map (stretch_fault list) (0 ∷ 1 ∷ 10000000 ∷ 10000001 ∷ 4294967295 ∷ [])) ([] ∷ news_at (7 ∷ []) ∷ [])
      ≡ (36 ∷ 0 ∷ 0 ∷ 36 ∷ 36 ∷ []) ∷ (36 ∷ 0 ∷ 0 ∷ 36 ∷ 36 ∷ []) ∷ []
  -- "a list that isn't whole records"
  pub torn : map (λ n. stretch_fault (take n (news_at (1 ∷ 2 ∷ []))) 10) (0 ∷ 1 ∷ 16 ∷ 31 ∷ 32 ∷ 33 ∷ 48 ∷ 63 ∷ 64 ∷ []) ≡ 0 ∷ 13 ∷ 13 ∷ 13 ∷ 0 ∷ 13 ∷ 13 ∷ 13 ∷ 0 ∷ []
  -- "a record": the first, the second, the last, by its kind, sub cause, cause, direction, or validity
  pub records : map (λ at. stretch_fault (spoilt at (news_at (1 ∷ 2 ∷ 3 ∷ []))) 10) (0 ∷ 32 ∷ 64 ∷ 2 ∷ 35 ∷ 70 ∷ 94 ∷ []) ≡ 14 ∷ 14 ∷ 14 ∷ 14 ∷ 14 ∷ 14 ∷ 14 ∷ []
  -- of a Cancel too: 14 by its cause, and 35 by a New before it at a later tick
  pub cancels : stretch_fault (spoilt 35 (news_at (5 ∷ []) ++ cancel_at_500)) 10 ∷ map (λ t. stretch_fault (news_at (t ∷ []) ++ cancel_at_500) 10) (500 ∷ 501 ∷ []) ≡ 14 ∷ 0 ∷ 35 ∷ []
  -- "a reference tick below the one before": one that equals it passes, and one that is above the first and below the one before does not
  pub falling : map (λ ticks. stretch_fault (news_at ticks) 10) ((2 ∷ 1 ∷ 9 ∷ []) ∷ (1 ∷ 9 ∷ 8 ∷ []) ∷ (5 ∷ 5 ∷ 5 ∷ []) ∷ (4 ∷ 6 ∷ 5 ∷ 7 ∷ []) ∷ (1 ∷ []) ∷ []) ≡ 35 ∷ 35 ∷ 0 ∷ 35 ∷ 0 ∷ []
  -- "first with 13": a list that is torn, has a spoilt record, ticks that fall, and a width of 0; then whole, with a record spoilt behind the ticks that
  -- fall; then with good records; then with ticks that rise. By a width over 10,000,000 too
  pub order : map (λ w. map (λ list. stretch_fault list w) (take 95 (spoilt 32 (news_at (2 ∷ 1 ∷ 9 ∷ []))) ∷ spoilt 64 (news_at (2 ∷ 1 ∷ 9 ∷ [])) ∷ news_at (2 ∷ 1 ∷ 9 ∷ []) ∷ news_at (1 ∷ 2 ∷ 9 ∷ []) ∷ [])) (0 ∷ 10000001 ∷ [])
      ≡ (13 ∷ 14 ∷ 35 ∷ 36 ∷ []) ∷ (13 ∷ 14 ∷ 35 ∷ 36 ∷ []) ∷ []
