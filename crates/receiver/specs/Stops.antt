-- Lists of calls worked by hand, with what they must answer and show, after change request CR 4.
-- Assumes nothing.
use Rattle.std.specs.Prelude.{ℕ, ◌≡◌, List, [], ◌∷◌, ◌++◌, map, replicate, pos}
use Rattle.wire.specs.Outcome.{accepted, refused}
use Rattle.warnings.specs.Warnings.{new, update, cancel, stopped, post_crash, unresponsive_driver}
use Rattle.message.specs.Message.{encode}
use Rattle.receiver.specs.Calls.{Call, receive_call, show_call}
use Rattle.receiver.specs.Reading.{Result, document_results}

-- ---- calls

-- the record of a message: its kind, warning, event, reference tick and validity
unfoldable pub message : ℕ → ℕ → ℕ → ℕ → ℕ → List ℕ
message kind warning event tick validity =
    encode
    (record {
      kind = kind;
      warning = warning;
      quality = 1;
      roadtype = 255;
      since = 0;
      event = event;
      detection = tick;
      reference = tick;
      position = record { east = pos 0; north = pos 0 };
      heading = 3601;
      validity = validity;
    })

-- of warning 1, which has a validity of 30 s
abbrev pub warning_1 : ℕ → ℕ → ℕ → List ℕ
warning_1 kind event tick = message kind stopped event tick 30

-- its New of event 1
abbrev pub first_new : List ℕ
first_new = warning_1 new 1 9

abbrev pub room : List ℕ
room = replicate 288 0

-- ---- what they give

abbrev pub given : Result
given = record { answer = accepted 1; output = [] }

abbrev pub turned_down : ℕ → Result
turned_down n = record { answer = refused n; output = [] }

-- so many are shown, which begin the output
abbrev pub shows : ℕ → List ℕ → Result
shows n output = record { answer = accepted n; output = output }

-- from an empty receiver
abbrev pub answers : List Call → List Result
answers calls = document_results [] calls

pub record ReceiverStops : Type 0 where
  -- "by rising sender, each as sender (4 bytes, little-endian) and record", as unsigned numbers; beyond them the output is as lent, and "it needs 288 bytes"
  pub rising :
      answers
      (receive_call 5 4294967295 first_new ∷ receive_call 5 258 (warning_1 update 1 9) ∷ receive_call 5 0 first_new
      ∷ show_call (replicate 290 7) ∷ show_call (replicate 287 7) ∷ [])
      ≡ given ∷ given ∷ given
      ∷ shows 3 (replicate 4 0 ++ first_new ++ (2 ∷ 1 ∷ 0 ∷ 0 ∷ []) ++ warning_1 update 1 9 ++ replicate 4 255 ++ first_new ++ replicate 182 7)
      ∷ record { answer = refused 2; output = replicate 287 7 } ∷ []
  -- "It has lapsed once 10 times its validity in ticks have passed since arrival.": 300 ticks after 5. A repeat at 304 is turned down, which moves no clock, as 200 shows, and renews no arrival: at 305 the same record is taken again. Then 304 is below the last accepted tick, and 305 is not
  pub lapse :
      answers
      (receive_call 5 0 first_new ∷ receive_call 304 0 first_new ∷ receive_call 200 1 first_new ∷ receive_call 305 0 first_new ∷ receive_call 304 2 first_new ∷ receive_call 305 2 first_new ∷ [])
      ≡ given ∷ turned_down 32 ∷ given ∷ given ∷ turned_down 31 ∷ given ∷ []
  -- what is shown goes by the last accepted tick: at 304 the first is still shown, at 305 no more
  pub shown_until :
      answers (receive_call 5 0 first_new ∷ receive_call 304 1 first_new ∷ show_call room ∷ receive_call 305 1 (warning_1 update 1 10) ∷ show_call room ∷ [])
      ≡ given ∷ given ∷ shows 2 (replicate 4 0 ++ first_new ++ (1 ∷ 0 ∷ 0 ∷ 0 ∷ []) ++ first_new ++ replicate 216 0)
      ∷ given ∷ shows 1 ((1 ∷ 0 ∷ 0 ∷ 0 ∷ []) ++ warning_1 update 1 10 ++ replicate 252 0) ∷ []
  -- "A message is newer if its event is higher, or the event is equal and its reference tick higher."
  pub newer :
      answers
      (receive_call 5 0 (warning_1 update 2 9) ∷ receive_call 5 0 (warning_1 update 2 9) ∷ receive_call 5 0 (warning_1 update 2 8)
      ∷ receive_call 5 0 (warning_1 update 1 20) ∷ receive_call 5 0 (warning_1 update 2 10) ∷ receive_call 5 0 (warning_1 update 3 1) ∷ [])
      ≡ given ∷ turned_down 32 ∷ turned_down 32 ∷ turned_down 32 ∷ given ∷ given ∷ []
  -- "A Cancel is held, unshown, until it lapses": the next event's New of the same tick is newer, and the Cancel behind it is not
  pub cancels :
      answers
      (receive_call 5 0 first_new ∷ receive_call 6 0 (warning_1 cancel 1 9) ∷ receive_call 6 0 (warning_1 cancel 1 20) ∷ show_call room ∷ receive_call 7 0 (warning_1 update 1 20)
      ∷ receive_call 7 0 (warning_1 new 2 20) ∷ receive_call 7 0 (warning_1 cancel 1 20) ∷ [])
      ≡ given ∷ turned_down 32 ∷ given ∷ shows 0 room ∷ turned_down 32 ∷ given ∷ turned_down 32 ∷ []
  -- a New that comes late, when its Cancel has lapsed, is taken and shown again
  pub late :
      answers (receive_call 5 0 (warning_1 cancel 1 20) ∷ receive_call 304 0 first_new ∷ receive_call 305 0 first_new ∷ show_call room ∷ [])
      ≡ given ∷ turned_down 32 ∷ given ∷ shows 1 (replicate 4 0 ++ first_new ++ replicate 252 0) ∷ []
  -- a message of a short validity takes the place of one with a long validity, which doesn't come back
  pub short :
      answers
      (receive_call 5 0 (message new post_crash 1 9 180) ∷ receive_call 6 0 (message new unresponsive_driver 2 10 2)
      ∷ receive_call 25 1 first_new ∷ receive_call 26 1 (warning_1 update 1 10) ∷ show_call room ∷ [])
      ≡ given ∷ given ∷ given ∷ given ∷ shows 1 ((1 ∷ 0 ∷ 0 ∷ 0 ∷ []) ++ warning_1 update 1 10 ++ replicate 252 0) ∷ []
  -- "a ninth sender while eight others are unlapsed", of which a Cancel is one; one of the eight may bring more, and once one has lapsed, at 305, the ninth is taken. A call that is turned down moves no clock
  pub ninth :
      answers
      (receive_call 5 8 (warning_1 cancel 1 9) ∷ map (λ sender. receive_call 6 sender first_new) (7 ∷ 6 ∷ 5 ∷ 4 ∷ 3 ∷ 2 ∷ 1 ∷ [])
      ++ (receive_call 304 9 first_new ∷ receive_call 6 1 (warning_1 update 1 10) ∷ receive_call 305 9 first_new ∷ receive_call 305 0 first_new ∷ []))
      ≡ replicate 8 given ++ (turned_down 33 ∷ given ∷ given ∷ turned_down 33 ∷ [])
  -- "it needs 288 bytes of output", whatever is held
  pub needs_room :
      answers (show_call (replicate 287 7) ∷ show_call room ∷ receive_call 5 0 (warning_1 cancel 1 9) ∷ show_call (replicate 287 7) ∷ [])
      ≡ record { answer = refused 2; output = replicate 287 7 } ∷ shows 0 room ∷ given ∷ record { answer = refused 2; output = replicate 287 7 } ∷ []
  -- the clock has 32 bits and does not begin again
  pub last_ticks :
      answers (receive_call 0 0 first_new ∷ receive_call 4294966996 0 first_new ∷ receive_call 4294967295 1 first_new ∷ receive_call 4294967295 0 first_new
      ∷ receive_call 0 2 first_new ∷ receive_call 4294967294 2 first_new ∷ receive_call 4294967295 2 first_new ∷ [])
      ≡ given ∷ given ∷ given ∷ turned_down 32 ∷ turned_down 31 ∷ turned_down 31 ∷ given ∷ []
  -- the order of the checks: 13, 14, 31 before 32 and before 33
  pub order :
      answers
      (receive_call 5 8 first_new ∷ receive_call 4 8 (replicate 31 0) ∷ receive_call 4 8 (replicate 32 0) ∷ receive_call 4 8 first_new
      ∷ map (λ sender. receive_call 6 sender first_new) (7 ∷ 6 ∷ 5 ∷ 4 ∷ 3 ∷ 2 ∷ 1 ∷ [])
      ++ (receive_call 5 9 first_new ∷ []))
      ≡ given ∷ turned_down 13 ∷ turned_down 14 ∷ turned_down 31 ∷ replicate 7 given ++ (turned_down 31 ∷ [])
