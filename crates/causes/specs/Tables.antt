-- How the tables of causes are spelled, and what the call `error` answers. Assumes nothing.
use Rattle.std.specs.Prelude.{ℕ, ◌-◌, Bool, cond, ◌&&◌, List, [], ◌∷◌, leb, eqb, get_or}
use Rattle.rules.specs.declared.Answer.{Answer}
use Rattle.rules.specs.Calls.{answer}
use Rattle.rules.specs.Causes.{Action, back_off, both_back_off, re_attach, other_network, as_3GPP, not_same_PLMN, not_same_area, not_same_cell, reactivate, re_establish, printed}

-- `.`, the entry of a cause that is as 3GPP says or has no number
abbrev pub plain : ℕ
plain = 46

-- the entry of a cause in a table, and of one beyond it
unfoldable pub entry_at : List ℕ → ℕ → ℕ
entry_at table cause = get_or table cause plain

-- an action's entry: the last digit of its number, but `b` and `d` for a back-off of one service
-- and of both registrations
abbrev pub spelled : Action → ℕ
spelled back_off = 98
spelled both_back_off = 100
spelled re_attach = 49
spelled other_network = 50
spelled as_3GPP = plain
spelled not_same_PLMN = 52
spelled not_same_area = 53
spelled not_same_cell = 54
spelled reactivate = 55
spelled re_establish = 56

-- the error numbers of the page, by their letters from `a` on
abbrev pub numbers : List ℕ
numbers =
    42
    ∷ 103
    ∷ 106
    ∷ 107
    ∷ 111
    ∷ 112
    ∷ 113
    ∷ 132
    ∷ 133
    ∷ 134
    ∷ 149
    ∷ 615
    ∷ 8
    ∷ 10
    ∷ 21
    ∷ 27
    ∷ 28
    ∷ 29
    ∷ 30
    ∷ 38
    ∷ 41
    ∷ 47
    ∷ 50
    ∷ 69
    ∷ 81
    ∷ []

-- entry e means error number n
unfoldable pub means : ℕ → ℕ → Bool
means e n = cond (eqb e plain) (eqb n 0) ((leb 97 e && leb e 121) && eqb (get_or numbers (e - 97) 0) n)

-- the answer of `error`
unfoldable pub error_for : (column cause : ℕ) → Answer
error_for column cause = cond (leb column 4 && leb cause 255) (answer 0 (printed column cause).error) (answer 2 0)
