use Rattle.format.proofs.FileOrder.{places_within, faults_are_first, faults_stay, beginnings_are_cut}
use Rattle.format.proofs.laws.faults_in_order.Goals as goal

pub returns : goal.returns
returns c = record { places = places_within; first = faults_are_first; stay = faults_stay; cut = beginnings_are_cut }
