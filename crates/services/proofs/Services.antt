-- There are four services. Assumes nothing.
use mathlib.Core.Path.{◌≡◌, refl}
use Prim.Native.Nat.{◌<◌}
use lib.Dec.{lit<, eqb}
use denote.Enum.Bare.{sameb}
use Rattle.services.specs.declared.Service.{Service}
use Rattle.services.specs.declared.Service.TheVariants.{Gsm, Gprs, Pdp, Sms}
use Rattle.services.specs.contracts.Service.{the_type}
use Rattle.services.specs.Services.{index_of}

pub four : (service : Service) → index_of service < 4
four Gsm = lit< tt
four Gprs = lit< tt
four Pdp = lit< tt
four Sms = lit< tt

pub is_pdp : (service : Service) → sameb the_type service Pdp ≡ eqb (index_of service) 2
is_pdp Gsm = refl
is_pdp Gprs = refl
is_pdp Pdp = refl
is_pdp Sms = refl
