-- "a setting left out is kept as the default of the Rust's config": those of dls.rs and global.rs. The three damped settings are apart: a change of one is
-- none of the others. Definitions only.
use Rattle.std.specs.Float.{binary64}
use Rattle.std.specs.Float.Ieee.{of_bits}
use Rattle.jobs.specs.declared.types.DlsConfig.{DlsConfig}
use Rattle.jobs.specs.declared.types.MultiStartConfig.{MultiStartConfig}
use Rattle.jobs.specs.declared.types.SimulatedAnnealingConfig.{SimulatedAnnealingConfig}

-- of a damped job: 50 iterations, damping 0.01 (request 2), tolerances 1e-6 and 1e-7, relative step 1e-5
abbrev pub damped_defaults : DlsConfig
damped_defaults = record {
  max_iterations = 50;
  initial_damping = of_bits binary64 0x3f84_7ae1_47ae_147b;
  relative_merit_tolerance = of_bits binary64 0x3eb0_c6f7_a0b5_ed8d;
  gradient_tolerance = of_bits binary64 0x3e7a_d7f2_9abc_af48;
  finite_difference_relative_step = of_bits binary64 0x3ee4_f8b5_88e3_68f1;
}

-- of a multi-start's damped runs: 20 iterations, damping 1, the rest as above
abbrev pub local_defaults : DlsConfig
local_defaults = record {
  max_iterations = 20;
  initial_damping = of_bits binary64 0x3ff0_0000_0000_0000;
  relative_merit_tolerance = of_bits binary64 0x3eb0_c6f7_a0b5_ed8d;
  gradient_tolerance = of_bits binary64 0x3e7a_d7f2_9abc_af48;
  finite_difference_relative_step = of_bits binary64 0x3ee4_f8b5_88e3_68f1;
}

-- "Its polish is a damped run of 25 iterations with defaults", damping 1 among them
abbrev pub polish_settings : DlsConfig
polish_settings = record {
  max_iterations = 25;
  initial_damping = of_bits binary64 0x3ff0_0000_0000_0000;
  relative_merit_tolerance = of_bits binary64 0x3eb0_c6f7_a0b5_ed8d;
  gradient_tolerance = of_bits binary64 0x3e7a_d7f2_9abc_af48;
  finite_difference_relative_step = of_bits binary64 0x3ee4_f8b5_88e3_68f1;
}

-- 10 trials, seed 42
abbrev pub multi_start_defaults : MultiStartConfig
multi_start_defaults = record { local_dls_config = local_defaults; num_trials = 10; seed = 42 }

-- temperature 100, cooling 0.90, 15 steps a cycle, 25 cycles, seed 12345
abbrev pub annealing_defaults : SimulatedAnnealingConfig
annealing_defaults = record {
  initial_temperature = of_bits binary64 0x4059_0000_0000_0000;
  cooling_rate = of_bits binary64 0x3fec_cccc_cccc_cccd;
  steps_per_temperature = 15;
  max_cooling_cycles = 25;
  seed = 12345;
}
