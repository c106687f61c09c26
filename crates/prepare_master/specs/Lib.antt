pub mod MasterTurns
