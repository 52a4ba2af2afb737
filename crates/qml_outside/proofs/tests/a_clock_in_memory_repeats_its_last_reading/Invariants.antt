use Rattle.qml_outside.proofs.tests.a_clock_in_memory_repeats_its_last_reading.Given as goal

abbrev pub ghosts-three_readings : goal.ghosts-three_readings
ghosts-three_readings g a = record { name = a.blank.name; parts = a.blank.parts }
