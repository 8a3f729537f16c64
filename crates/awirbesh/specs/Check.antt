-- The numbers that stand for the answers of Rules 6, "Recovery", and Rules 7, "Sound check".
use Rattle.catalog.specs.Check.{Checking, sound, refused}
use Rattle.catalog.specs.Recovery.{Recovering, recovered, refused as unrecovered}
use Rattle.awirbesh.specs.State.{state_numbers}
use Rattle.awirbesh.specs.declared.checking.CheckedNumbers.{CheckedNumbers}
use Rattle.awirbesh.specs.declared.checking.RecoveredNumbers.{RecoveredNumbers}

-- sound is number 0
abbrev pub checked_numbers : Checking → CheckedNumbers
checked_numbers sound = record { number = 0; value = 0 }
checked_numbers (refused number value) = record { number = number; value = value }

-- the state, the excess and the pages dropped: 6.2 "their count is reported with the state", 6.6 "The count of pages dropped is reported with it"
abbrev pub recovered_numbers : Recovering → RecoveredNumbers
recovered_numbers (recovered st excess dropped) = record { number = 0; value = 0; excess = excess; dropped = dropped; state = state_numbers st }
recovered_numbers (unrecovered number value) =
    record { number = number; value = value; excess = 0; dropped = 0; state = record { length = 0; last = 0; next = 0; ceiling = 0 } }
