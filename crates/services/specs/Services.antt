-- The services by document 01's numbers. Assumes nothing.
use Rattle.std.specs.Prelude.{ℕ, ◌≡◌, ◌<◌, Result, Ok, Err}
use Rattle.services.specs.declared.Service.{Service}
use Rattle.services.specs.declared.Service.TheVariants.{Gsm, Gprs, Pdp, Sms}
use Rattle.services.specs.declared.NoService.{NoService}

-- the number of a service
abbrev pub index_of : Service → ℕ
index_of Gsm = 0
index_of Gprs = 1
index_of Pdp = 2
index_of Sms = 3

-- the service of a number: there is none from 4 on
abbrev pub ServiceOf : ℕ → Result Service NoService → Type 0
ServiceOf n (Ok service) = index_of service ≡ n
ServiceOf n (Err none) = 3 < n
