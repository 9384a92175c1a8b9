-- Section 7.5 of CLP.03 as it is printed, column by column, row by row: what to do on a cause that
-- the network gives, and the error number beside it for the AT side. Assumes nothing.
use Rattle.std.specs.Prelude.{ℕ, Bool, true, false, cond, ◌&&◌, ◌||◌, List, [], ◌∷◌, leb, eqb, get_or}

-- ---- What the last column of the page proposes

pub data Action : Type 0 where
  -- "shall perform the 'Back-off'", the rejected service alone
  back_off : Action
  -- "shall perform a GSM and GPRS Attach 'Back-off'": both registrations, services 0 and 1
  both_back_off : Action
  -- "shall perform a GPRS re-attach"
  re_attach : Action
  -- "If a second mobile network is available", connect "via the alternate mobile network"; if none
  -- is, "perform a Back-off"
  other_network : Action
  -- "As per 3GPP specifications"
  as_3GPP : Action
  -- "should not retry the attempt on the same PLMN", "LA", "cell" "unless prompted externally"
  not_same_PLMN : Action
  not_same_area : Action
  not_same_cell : Action
  -- "Immediate reactivation of PDP Context by the Communications Module is OK"
  reactivate : Action
  -- "may re-establish the PDP Context immediately, but upon failure go to back-off"
  re_establish : Action

-- ---- The rows: the cause, what to do on it, and the CME or CMS number beside it

pub record Row : Type 0 where
  pub cause : ℕ
  pub action : Action
  pub error : ℕ

abbrev pub row : ℕ → Action → ℕ → Row
row n a e = record { cause = n; action = a; error = e }

-- no number stands beside it
abbrev pub none : ℕ
none = 0

-- column 0, of service 0; the numbers beside it are CME
abbrev pub MM : List Row
MM =
    row 2 back_off none  -- IMSI unknown in HLR
    ∷ row 3 back_off 103  -- Illegal device
    ∷ row 4 as_3GPP none  -- IMSI unknown in VLR
    ∷ row 5 back_off none  -- IMEI not accepted
    ∷ row 6 back_off 106  -- Illegal ME
    ∷ row 8 both_back_off none  -- GPRS services and non-GPRS services not allowed
    ∷ row 9 both_back_off none  -- Device identity cannot be derived by the network
    ∷ row 11 not_same_PLMN 111  -- PLMN not allowed
    ∷ row 12 not_same_area 112  -- Location Area not allowed
    ∷ row 13 not_same_area 113  -- Roaming not allowed in this location area
    ∷ row 15 not_same_cell none  -- No Suitable Cells In Location Area
    ∷ row 17 back_off 615  -- Network failure
    ∷ row 20 as_3GPP none  -- MAC failure
    ∷ row 21 as_3GPP none  -- Sync failure
    ∷ row 22 back_off 42  -- Congestion
    ∷ row 23 as_3GPP none  -- GSM authentication unacceptable
    ∷ row 32 as_3GPP 132  -- Service Option Not Supported
    ∷ row 33 as_3GPP 133  -- Requested Service Option Not Subscribed
    ∷ row 34 back_off 134  -- Service option temporarily out of order
    ∷ row 38 as_3GPP none  -- Call Cannot be identified
    ∷ row 40 as_3GPP none  -- No PDP context activated
    ∷ []

-- column 1, of service 1; CME
abbrev pub GMM : List Row
GMM =
    row 2 both_back_off none  -- IMSI unknown in HLR (NOM1 only)
    ∷ row 3 both_back_off 106  -- Illegal device
    ∷ row 6 both_back_off 106  -- Illegal ME
    ∷ row 7 back_off 107  -- GPRS Services Not Allowed
    ∷ row 8 both_back_off none  -- GPRS services and non-GPRS services not allowed
    ∷ row 9 both_back_off none  -- Device identity cannot be derived by the network
    ∷ row 10 as_3GPP none  -- Implicitly detached
    ∷ row 11 not_same_PLMN 111  -- PLMN not allowed
    ∷ row 12 not_same_area 112  -- Location Area not allowed
    ∷ row 13 not_same_area 113  -- Roaming not allowed in this location area
    ∷ row 14 not_same_PLMN none  -- GPRS services not allowed in this PLMN
    ∷ row 15 not_same_cell none  -- No Suitable Cells In Location Area
    ∷ row 16 back_off none  -- MSC temporarily not reachable (NOM 1 only)
    ∷ row 17 back_off 615  -- Network failure
    ∷ row 20 as_3GPP none  -- MAC failure
    ∷ row 21 as_3GPP none  -- Sync failure
    ∷ row 22 back_off 42  -- Congestion
    ∷ []

-- column 2, of service 2; CME
abbrev pub SM : List Row
SM =
    row 8 back_off none  -- Operator determined barring
    ∷ row 26 back_off none  -- Insufficient resources
    ∷ row 27 back_off 134  -- Unknown or missing access point name
    ∷ row 28 re_attach none  -- Unknown PDP address or PDP type
    ∷ row 29 back_off 149  -- User authentication failed
    ∷ row 30 back_off none  -- Activation rejected by GGSN
    ∷ row 31 back_off none  -- Activation rejected, unspecified
    ∷ row 32 back_off 132  -- Service option not supported
    ∷ row 33 back_off 133  -- Requested service option not subscribed
    ∷ row 34 other_network 134  -- Service option temporarily out of order
    ∷ row 35 back_off none  -- NSAPI already used
    ∷ row 36 reactivate none  -- Regular PDP Context deactivation
    ∷ row 37 as_3GPP none  -- QoS not accepted
    ∷ row 38 back_off 615  -- Network Failure
    ∷ row 39 re_establish none  -- Reactivation requested
    ∷ row 40 as_3GPP none  -- Feature not supported
    ∷ row 43 as_3GPP none  -- Unknown PDP context
    ∷ row 56 as_3GPP none  -- Collision with network initiated request
    ∷ row 112 as_3GPP none  -- APN restriction value incompatible with active PDP context
    ∷ []

-- column 3, of service 3; CMS
abbrev pub RP : List Row
RP =
    row 8 back_off 8  -- Operator determined barring
    ∷ row 10 back_off 10  -- Call barred
    ∷ row 21 back_off 21  -- Short message transfer rejected
    ∷ row 22 back_off 27  -- Destination out of service
    ∷ row 28 back_off 28  -- Unidentified subscriber
    ∷ row 29 back_off 29  -- Facility rejected
    ∷ row 30 back_off 30  -- Unknown subscriber
    ∷ row 38 back_off 38  -- Network out of order
    ∷ row 41 back_off 41  -- Temporary failure
    ∷ row 42 back_off 42  -- Congestion
    ∷ row 47 back_off 47  -- Resources unavailable, unspecified
    ∷ row 50 back_off 50  -- Requested facility not subscribed
    ∷ row 69 back_off 69  -- Requested facility not implemented
    ∷ row 81 back_off 81  -- Invalid short message transfer reference value
    ∷ []

-- column 4, of service 3; none is printed
abbrev pub CP : List Row
CP =
    row 17 back_off none  -- Network failure
    ∷ row 21 back_off none  -- Congestion
    ∷ []

-- ---- What is read off them

-- the columns by their numbers
abbrev pub columns : List (List Row)
columns = MM ∷ GMM ∷ SM ∷ RP ∷ CP ∷ []

-- the row of a cause; one that has none is "As per 3GPP specifications", as the page says of "All
-- other MM codes" and "All other GMM codes"
abbrev pub row_of : List Row → ℕ → Row
row_of [] cause = row cause as_3GPP none
row_of (r ∷ rs) cause = cond (eqb cause r.cause) r (row_of rs cause)

unfoldable pub printed : (column cause : ℕ) → Row
printed column cause = row_of (get_or columns column []) cause

-- the number that tells an action; second is 1 where a second network is there
abbrev pub number_of : Action → (second : ℕ) → ℕ
number_of back_off second = 20
number_of both_back_off second = 20
number_of re_attach second = 21
number_of other_network second = cond (eqb second 1) 22 20
number_of as_3GPP second = 23
number_of not_same_PLMN second = 24
number_of not_same_area second = 25
number_of not_same_cell second = 26
number_of reactivate second = 27
number_of re_establish second = 28

abbrev pub of_both : Action → Bool
of_both back_off = false
of_both both_back_off = true
of_both re_attach = false
of_both other_network = false
of_both as_3GPP = false
of_both not_same_PLMN = false
of_both not_same_area = false
of_both not_same_cell = false
of_both reactivate = false
of_both re_establish = false

-- what to do on a cause, by its number
unfoldable pub action : (column cause second : ℕ) → ℕ
action column cause second = number_of (printed column cause).action second

-- whether both registrations back off on it
unfoldable pub both : (column cause : ℕ) → Bool
both column cause = of_both (printed column cause).action

-- whether a back-off on an outcome of service s is service u's too
abbrev pub reaches : (both : Bool) → (s u : ℕ) → Bool
reaches both s u = cond both (leb u 1) (eqb s u)

-- the columns of a service
abbrev pub belongs : (column s : ℕ) → Bool
belongs column s = eqb column s || (eqb column 4 && eqb s 3)
