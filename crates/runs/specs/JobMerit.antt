-- The merit of surfaces under a job: the only file of definitions here that calls on the evaluation. It knows no row. Definitions only.
use Rattle.optics.specs.declared.types.OpticalPrescription.{OpticalPrescription}
use Rattle.merit.specs.declared.types.MeritEvaluation.{MeritEvaluation}
use Rattle.merit.specs.Calls.{lens_evaluation}
use Rattle.jobs.specs.declared.types.Job.{Job}
use Rattle.runs.specs.Run.{Surfaces}

-- the job's lens with other surfaces: its indices, pupil and counts stay
abbrev pub lens_with : Job → Surfaces → OpticalPrescription
lens_with job s = record {
  surfaces = s;
  indices = job.prescription.indices;
  surface_count = job.prescription.surface_count;
  slot_count = job.prescription.slot_count;
  entrance_pupil_diameter_mm = job.prescription.entrance_pupil_diameter_mm;
}

-- "The merit of surfaces is evaluate's total under the job's indices, pupil and operands": what the call `evaluate` writes for that lens, by its contract
unfoldable pub evaluate_of : Job → Surfaces → MeritEvaluation
evaluate_of job s = lens_evaluation (lens_with job s) job.merit_function
