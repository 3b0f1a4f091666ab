-- Requests in numbers (`Requests`), the exported calls and what is stated of lists of them (`Exported`), and the proof (`Proved`).
pub mod Requests
pub mod Exported
